-- The value of a leaf, by its row in a lawful report.
use Rattle.std.proofs.Common.{◌≡◌, ℕ, ◌<◌, List, length, map, get_or, Some, refl, sym, ap, ◌∙◌, arith}
use Rattle.std.specs.Prelude.{slice_get, slice_index_or}
use Rattle.std.specs.Option.{ForSome, option_map}
use Rattle.std.specs.List.{AllByRecursion}
use Rattle.std.proofs.lemmas.Option.{slice_get-get_or}
use Rattle.seq_objects.specs.Objects.{value_of}
use Rattle.seq_objects.specs.declared.reply.Reply.{Reply}
use Rattle.seq_objects.proofs.Elements.{each_at, each_mapped}
use Rattle.sp_order.specs.Jobs.{JobValue}
use Rattle.sp_order.specs.Precedence.{leaf_count}
use Rattle.sp_order.specs.Sources.{IsCallLeaf}
use Rattle.batch_history.specs.Book.{flat}
use Rattle.batch_history.specs.Lawful.{LawfulWith}
use Rattle.batch_history.specs.declared.batch.Entry.{Entry}
use Rattle.batch_history.specs.declared.report.Report.{Report}
use Rattle.batch_history.specs.declared.row.Row.{Row}
use Rattle.serial_runs.specs.SerialRuns.{HasValue, IsReplyTo}
use Rattle.serial_runs.proofs.Elements.{each_contained}
use Rattle.serial_runs.proofs.SerialOrder.{rows_fill}
use Rattle.serial_runs.proofs.Values.{worked_value}
use Rattle.job_results.specs.Results.{value_in}

-- one of the calls is of the leaf, and its reply has the value of the leaf's row
abbrev IsTold : Report → ℕ → Type 0
IsTold report leaf =
    (reply : Reply) × IsReplyTo (flat report.history) leaf reply × ForSome (slice_get report.rows leaf) (λ row. row.value ≡ value_of reply)

module _ (meaning : ℕ → ℕ) (job : JobValue) (workers : ℕ) (report : Report) (lawful : LawfulWith meaning job workers report) (leaf : ℕ) (less : leaf < leaf_count job.shape) where
  below : leaf < length report.rows
  below = let long = rows_fill job workers report lawful.rows in omega (arith, long, less)

  each_told : AllByRecursion (λ (entry : Entry). IsTold report entry.leaf) (flat report.history)
  each_told =
      each_contained (λ (entry : Entry). IsTold report entry.leaf) (flat report.history)
      (λ entry made. (
        entry.reply,
        record { call = entry; made = made; of_leaf = refl; replied = refl },
        each_at (λ (e : Entry). ForSome (slice_get report.rows e.leaf) (λ row. row.value ≡ value_of e.reply)) (flat report.history) entry lawful.values.calls made,
      ))

  -- a leaf that calls is told its reply
  is_told : (n : ℕ) → IsCallLeaf job.acts n → IsTold report n
  is_told n call =
      let callers : List ℕ = map (λ (entry : Entry). entry.leaf) (flat report.history) in
      each_at (IsTold report) callers n
      (each_mapped (λ (entry : Entry). entry.leaf) (λ (entry : Entry). IsTold report entry.leaf) (IsTold report) (λ entry told. told) (flat report.history) each_told)
      (lawful.calls.leaves.each n call)

  -- where the code reads the row
  module _ (rows : List Row) (at : ℕ) (none : Row) (same : rows ≡ report.rows) (is_leaf : at ≡ leaf) where
    pub row_is_there : at < length rows
    row_is_there = let long = ap length same in omega (arith, below, long, is_leaf)

    row_read : (slice_index_or rows at none).value ≡ (get_or report.rows leaf none).value
    row_read = λ i. (slice_index_or (same i) (is_leaf i) none).value

    pub value_read : value_in report leaf ≡ Some (slice_index_or rows at none).value
    value_read = ap (option_map (λ (row : Row). row.value)) (slice_get-get_or report.rows leaf none below) ∙ ap Some (sym row_read)

    -- the value that is read is the one that the leaf has in the serial run
    pub value_has : HasValue meaning job (flat report.history) leaf (slice_index_or rows at none).value
    value_has = record {
      works = λ own act.
          worked_value meaning job report.history leaf own (slice_index_or rows at none).value
          (lawful.values.work leaf own act (get_or report.rows leaf none) (slice_get-get_or report.rows leaf none below) ∙ ap Some (sym row_read));
      called = λ call.
          let told = is_told leaf call in
          (told.0, told.1, row_read ∙ told.2 (get_or report.rows leaf none) (slice_get-get_or report.rows leaf none below));
    }
