-- Lawful reports are raw: their numbers fit, and their operations are on objects of the job.
use Rattle.std.proofs.Common.{◌≡◌, ◌≢◌, ℕ, zero, suc, ◌+◌, ◌*◌, ◌%◌, ◌<◌, ◌≤◌, ◌^◌, inl, inr, List, [], ◌∷◌, length, get_or, map, Option, Some, None, refl, sym, ap, subst, arith}
use Rattle.std.specs.Prelude.{slice_get, Contains}
use Rattle.std.specs.Option.{ForSome, option_map}
use Rattle.std.specs.List.{AllByRecursion, range_with_len}
use Rattle.std.proofs.lemmas.List.Elements.{recursion_from_All}
use Rattle.std.proofs.lemmas.Option.{slice_get-get_or}
use Rattle.seq_objects.specs.Parts.{verb_of, kind_of, number_of, argument_of}
use Rattle.seq_objects.specs.Objects.{value_of}
use Rattle.seq_objects.specs.Spin.{spin_of}
use Rattle.seq_objects.specs.declared.act.Act.{Act}
use Rattle.seq_objects.specs.declared.act.Act.TheVariants.{Work, Call}
use Rattle.seq_objects.specs.declared.op.Op.{Op}
use Rattle.seq_objects.proofs.Elements.{each_so, each_both, each_at}
use Rattle.seq_objects.proofs.Parts.{number_given, kind_given}
use Rattle.sp_order.specs.Precedence.{leaf_count}
use Rattle.sp_order.specs.Jobs.{JobValue}
use Rattle.sp_order.specs.Sources.{with_value}
use Rattle.sp_order.specs.Totals.{count_of_act}
use Rattle.batch_history.specs.Book.{flat, IsBatch}
use Rattle.batch_history.specs.Lawful.{Lawful}
use Rattle.batch_history.specs.Operations.{source_of, number_from, op_of}
use Rattle.batch_history.specs.Text.{HaveNames}
use Rattle.batch_history.specs.declared.batch.Entry.{Entry}
use Rattle.batch_history.specs.declared.report.Report.{Report}
use Rattle.batch_history.specs.declared.row.Row.{Row}
use Rattle.batch_history.proofs.ActLemmas.{IsGiven, called_as}
use Rattle.report_reader.specs.Raw.{FitsEntry, FitsRow, HasOwnObject, IsRaw}
use Rattle.report_walks.proofs.CallWalk.{leaves_in, leaves_within}
use Rattle.report_walks.proofs.RowWalk.{rows_long}
use Rattle.report_walks.proofs.Timed.{row_each, start_each, end_each}
use Rattle.report_walks.proofs.Walks.{no_row}
use Rattle.report_check.specs.SmallJobs.{IsSmallJob}
use Rattle.batch_history.proofs.TallyLemmas.SmallReplies.{given_small}

-- the argument of a call is that of its act, or the low bits of a value
act_small : (acts : List Act) (leaf : ℕ) (op : Op) → AllByRecursion (λ act. count_of_act argument_of act < 2 ^ 32) acts → slice_get acts leaf ≡ Some (Call op) → argument_of op < 2 ^ 32
act_small [] leaf op small is = cc
act_small (act ∷ acts) zero op small is = let same : act ≡ Call op = cc in subst (λ (a : Act). count_of_act argument_of a < 2 ^ 32) same small.0
act_small (act ∷ acts) (suc leaf) op small is = act_small acts leaf op small.1 is

-- the value of work has 32 bits
work_small : (steps : ℕ) → spin_of steps < 2 ^ 64
work_small zero = omega arith
work_small (suc steps) = omega arith

spun_small : (number : Option ℕ) (value : ℕ) → option_map spin_of number ≡ Some value → value < 2 ^ 64
spun_small None value is = cc
spun_small (Some number) value is = let same : spin_of number ≡ value = cc in omega (arith, same, work_small number)

range_below : (first n : ℕ) → AllByRecursion (λ x. x < first + n) (range_with_len first n)
range_below first zero = tt
range_below first (suc n) = (omega arith, each_so (λ x. x < first + 1 + n) (λ x. x < first + suc n) (λ x low. omega (arith, low)) (range_with_len (first + 1) n) (range_below (first + 1) n))

row_leaves : (P : ℕ → Type 0) (rows : List Row) → AllByRecursion P (map (λ (row : Row). row.leaf) rows) → AllByRecursion (λ (row : Row). P row.leaf) rows
row_leaves P [] all = tt
row_leaves P (row ∷ rows) all = (all.0, row_leaves P rows all.1)

-- the entry of a leaf that has one
entry_of : (entries : List Entry) (leaf : ℕ) → Contains (leaves_in entries) leaf → (entry : Entry) × ((entry.leaf ≡ leaf) × Contains entries entry)
entry_of [] leaf (k, low, is) = absurd (omega (arith, low))
entry_of (entry ∷ entries) leaf (zero, low, is) = (entry, (is, (0, omega arith, refl)))
entry_of (entry ∷ entries) leaf (suc k, low, is) = let more = entry_of entries leaf (k, omega (arith, low), is) in (more.0, (more.1.0, (suc more.1.1.0, omega (arith, more.1.1.1), more.1.1.2)))

-- an argument from a reply leaves the object
abbrev AreOfOneObject : Op → Op → Type 0
AreOfOneObject op other = (number_of op ≡ number_of other) × (kind_of op ≡ kind_of other)

keeps_object : (op : Op) (value : ℕ) → AreOfOneObject (with_value op value) op
keeps_object op value =
    let argument = value % 2 ^ 32 in
    (number_given (verb_of op) (number_of op) argument, kind_given (verb_of op) (number_of op) argument)

given_object : (op given : Op) → IsGiven op given → AreOfOneObject op given
given_object op given (inl same) = (ap number_of same, ap kind_of same)
given_object op given (inr value) = subst (λ (o : Op). AreOfOneObject o given) (sym value.1) (keeps_object given value.0)

at_contained : (acts : List Act) (leaf : ℕ) (act : Act) → slice_get acts leaf ≡ Some act → Contains acts act
at_contained [] leaf act is = cc
at_contained (x ∷ acts) zero act is = let same : x ≡ act = cc in (0, omega arith, same)
at_contained (x ∷ acts) (suc leaf) act is = let more = at_contained acts leaf act is in (suc more.0, omega (arith, more.1), more.2)

module _ (job : JobValue) (report : Report) (small : IsSmallJob job) (few : report.workers ≤ 32) (lawful : Lawful job report.workers report)
    (replies : AllByRecursion (λ entry. value_of entry.reply < 2 ^ 64) (flat report.history)) where
  long : length report.rows ≡ leaf_count job.shape
  long = rows_long job report.workers report lawful.rows

  few_leaves : leaf_count job.shape ≤ 20000
  few_leaves = omega (arith, small.is_job.leaves, small.is_job.most)

  row_at : (leaf : ℕ) → leaf < length report.rows → slice_get report.rows leaf ≡ Some (get_or report.rows leaf no_row)
  row_at leaf low = slice_get-get_or report.rows leaf no_row low

  abbrev Serves : Entry → Type 0
  Serves entry = (entry.leaf < length job.acts) × (op_of spin_of job report.history entry.leaf ≡ Some entry.op) × ForSome (slice_get report.rows entry.leaf) (λ row. row.worker ≡ entry.worker) × (value_of entry.reply < 2 ^ 64)

  serves : AllByRecursion Serves (flat report.history)
  serves = each_so (λ (entry : Entry). ((entry.leaf < length job.acts) × (op_of spin_of job report.history entry.leaf ≡ Some entry.op)) × (ForSome (slice_get report.rows entry.leaf) (λ row. row.worker ≡ entry.worker) × (value_of entry.reply < 2 ^ 64))) Serves
      (λ entry is. (is.0.0, is.0.1, is.1.0, is.1.1)) (flat report.history)
      (each_both (λ (entry : Entry). (entry.leaf < length job.acts) × (op_of spin_of job report.history entry.leaf ≡ Some entry.op)) (λ (entry : Entry). ForSome (slice_get report.rows entry.leaf) (λ row. row.worker ≡ entry.worker) × (value_of entry.reply < 2 ^ 64)) (flat report.history)
      (each_both (λ (entry : Entry). entry.leaf < length job.acts) (λ (entry : Entry). op_of spin_of job report.history entry.leaf ≡ Some entry.op) (flat report.history) (leaves_within job.acts (flat report.history) lawful.calls.leaves) lawful.calls.operations)
      (each_both (λ (entry : Entry). ForSome (slice_get report.rows entry.leaf) (λ row. row.worker ≡ entry.worker)) (λ (entry : Entry). value_of entry.reply < 2 ^ 64) (flat report.history) lawful.calls.workers replies))

  fits_entry : (entry : Entry) → Serves entry → FitsEntry entry
  fits_entry entry is =
      let row = row_at entry.leaf (omega (arith, is.0, long, small.is_job.leaves)) in
      let worker : (get_or report.rows entry.leaf no_row).worker ≡ entry.worker = is.2 (get_or report.rows entry.leaf no_row) row in
      let among : (get_or report.rows entry.leaf no_row).worker < report.workers = row_each (λ (r : Row). r.worker < report.workers) report.rows entry.leaf (get_or report.rows entry.leaf no_row) lawful.rows.among row in
      let given = called_as spin_of job report.history entry.leaf entry.op is.1 in
      record {
        leaf = omega (arith, is.0, small.is_job.most);
        worker = omega (arith, worker, among, few);
        argument = given_small entry.op given.0 (act_small job.acts entry.leaf given.0 small.arguments given.1.0) given.1.1;
        reply = is.3;
      }

  -- the value of a row is that of work or of a reply
  row_value : (leaf : ℕ) (row : Row) (act : Act) → slice_get report.rows leaf ≡ Some row → slice_get job.acts leaf ≡ Some act → row.value < 2 ^ 64
  row_value leaf row (Work steps) is does = spun_small (number_from report.history steps (source_of job leaf)) row.value (lawful.values.work leaf steps does row is)
  row_value leaf row (Call op) is does =
      let found = entry_of (flat report.history) leaf (lawful.calls.leaves.each leaf (op, does)) in
      let value : row.value ≡ value_of found.0.reply =
      each_at (λ (entry : Entry). ForSome (slice_get report.rows entry.leaf) (λ row. row.value ≡ value_of entry.reply)) (flat report.history) found.0 lawful.values.calls found.1.1 row (subst (λ (l : ℕ). slice_get report.rows l ≡ Some row) (sym found.1.0) is) in
      let reply : value_of found.0.reply < 2 ^ 64 = each_at (λ (entry : Entry). value_of entry.reply < 2 ^ 64) (flat report.history) found.0 replies found.1.1 in
      omega (arith, value, reply)

  fits_row : (leaf : ℕ) (row : Row) → slice_get report.rows leaf ≡ Some row → leaf < length report.rows → FitsRow row
  fits_row leaf row is low =
      let below : AllByRecursion (λ x. x < leaf_count job.shape) (map (λ (r : Row). r.leaf) report.rows) =
      subst (AllByRecursion (λ x. x < leaf_count job.shape)) (sym lawful.rows.leaves) (each_so (λ x. x < 0 + leaf_count job.shape) (λ x. x < leaf_count job.shape) (λ x low. omega (arith, low)) (range_with_len 0 (leaf_count job.shape)) (range_below 0 (leaf_count job.shape))) in
      let number : row.leaf < leaf_count job.shape = row_each (λ (r : Row). r.leaf < leaf_count job.shape) report.rows leaf row (row_leaves (λ x. x < leaf_count job.shape) report.rows below) is in
      let among : row.worker < report.workers = row_each (λ (r : Row). r.worker < report.workers) report.rows leaf row lawful.rows.among is in
      let start : row.start < 2 * leaf_count job.shape = start_each (λ tick. tick < 2 * leaf_count job.shape) report.rows leaf row lawful.rows.ticks.only is in
      let end : row.end < 2 * leaf_count job.shape = end_each (λ tick. tick < 2 * leaf_count job.shape) report.rows leaf row lawful.rows.ticks.only is in
      record {
        leaf = omega (arith, number, few_leaves);
        worker = omega (arith, among, few);
        start = omega (arith, start, few_leaves);
        end = omega (arith, end, few_leaves);
        value = row_value leaf row (get_or job.acts leaf (Work 0)) is (slice_get-get_or job.acts leaf (Work 0) (omega (arith, low, long, small.is_job.leaves)));
      }

  -- the object of an entry is that of its leaf's act
  own_object : (entry : Entry) → Serves entry → number_of entry.op ≤ length job.names → HasOwnObject job entry.op
  own_object entry is low =
      let given = called_as spin_of job report.history entry.leaf entry.op is.1 in
      let same = given_object entry.op given.0 given.1.1 in
      record {
        number = low;
        called = λ some. record {
          by = given.0;
          among = at_contained job.acts entry.leaf (Call given.0) given.1.0;
          number = sym same.0;
          kind = sym same.1;
        };
      }

  pub raw_of_lawful : HaveNames job.names (flat report.history) → 1 ≤ report.workers → IsRaw job report
  raw_of_lawful names some = record {
    fits = record {
      some = some;
      few = few;
      batches = each_so IsBatch (λ batch. batch ≢ []) (λ batch is. is.some) report.history lawful.batches;
      entries = each_so Serves FitsEntry fits_entry (flat report.history) serves;
      rows = recursion_from_All FitsRow report.rows (λ leaf d low. fits_row leaf (get_or report.rows leaf d) (slice_get-get_or report.rows leaf d low) low);
    };
    objects = each_so (λ (entry : Entry). Serves entry × (number_of entry.op ≤ length job.names)) (λ (entry : Entry). HasOwnObject job entry.op) (λ entry is. own_object entry is.0 is.1) (flat report.history)
        (each_both Serves (λ (entry : Entry). number_of entry.op ≤ length job.names) (flat report.history) serves names);
  }
