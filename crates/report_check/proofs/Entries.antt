-- The entries of a report whose calls are those of a job: how many there are, and what their leaves are below.
use Rattle.std.proofs.Common.{◌≡◌, ℕ, zero, suc, ◌<◌, ◌≤◌, ◌^◌, List, [], ◌∷◌, length, sym, subst, ◌∙◌, arith}
use Rattle.std.specs.Prelude.{Contains, IsSomeAnd, slice_get}
use Rattle.std.specs.List.{AllByRecursion}
use Rattle.std.proofs.lemmas.List.{length-map}
use Rattle.std.proofs.lemmas.Map.Steps.{length-le_from_distinct_below}
use Rattle.seq_objects.specs.Pairs.{IsEnumerationOf}
use Rattle.seq_objects.specs.declared.act.Act.{Act}
use Rattle.seq_objects.proofs.Elements.{each_so, each_front, each_at}
use Rattle.sp_order.specs.Precedence.{leaf_count}
use Rattle.sp_order.specs.Jobs.{JobValue, IsJob}
use Rattle.sp_order.specs.Sources.{IsCallLeaf}
use Rattle.batch_history.specs.Book.{flat}
use Rattle.batch_history.specs.Lawful.{HasRows, HasCalls, IsInBatch}
use Rattle.batch_history.specs.declared.batch.Entry.{Entry}
use Rattle.batch_history.specs.declared.row.Row.{Row}
use Rattle.batch_history.proofs.BookLemmas.EntryLists.{distinct_tests}
use Rattle.report_walks.specs.Parts.{report_of, of_calls}
use Rattle.report_walks.proofs.CallWalk.{leaves_in, leaves_within, call_within}
use Rattle.report_walks.proofs.RowWalk.{rows_long}
use Rattle.batch_history.proofs.Few.{found_below}

-- there are no more entries than acts
pub few_entries : (acts : List Act) (entries : List Entry) → IsEnumerationOf (IsCallLeaf acts) (leaves_in entries) → length entries ≤ length acts
few_entries acts entries once =
    let leaves = leaves_in entries in
    let below : AllByRecursion (λ leaf. leaf < length acts) leaves = each_so (IsCallLeaf acts) (λ leaf. leaf < length acts) (λ leaf calls. call_within acts leaf calls) leaves once.only in
    let few : length leaves ≤ length acts = length-le_from_distinct_below leaves (length acts) (distinct_tests leaves once.distinct) (λ q. found_below (length acts) q leaves below) in
    omega (arith, few, length-map entries (λ (entry : Entry). entry.leaf))

-- an entry of a batch is one of the book
in_book : (book : List (List Entry)) (number : ℕ) (P : Entry → Type 0) (entry : Entry) → AllByRecursion P (flat book) → IsSomeAnd (slice_get book number) (λ batch. Contains batch entry) → P entry
in_book [] number P entry all has = absurd has
in_book (batch ∷ book) zero P entry all has = each_at P batch entry (each_front P batch (flat book) all).0 has
in_book (batch ∷ book) (suc number) P entry all has = in_book book number P entry (each_front P batch (flat book) all).1 has

module _ (job : JobValue) (workers : ℕ) (book : List (List Entry)) (rows : List Row) (is_job : IsJob job) (has_rows : HasRows job workers (report_of workers [] rows)) where
  pub long : length rows ≡ leaf_count job.shape
  long = rows_long job workers (report_of workers [] rows) has_rows

  module _ (calls : HasCalls job (of_calls book rows)) where
    pub few : length (flat book) ≤ 2 ^ 32
    few = omega (arith, few_entries job.acts (flat book) calls.leaves, is_job.most)

    pub leaves_below : AllByRecursion (λ (entry : Entry). entry.leaf < length rows) (flat book)
    leaves_below = subst (λ (n : ℕ). AllByRecursion (λ (entry : Entry). entry.leaf < n) (flat book)) (sym is_job.leaves ∙ sym long) (leaves_within job.acts (flat book) calls.leaves)

    pub batch_below : (number : ℕ) (entry : Entry) → IsInBatch (of_calls book rows) number entry → entry.leaf < length rows
    batch_below number entry has = in_book book number (λ (e : Entry). e.leaf < length rows) entry leaves_below has
