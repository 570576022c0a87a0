-- The calls of a report of a job: how many there are, and that each leaf that calls has a place.
use Rattle.std.proofs.Common.{◌≢◌, ℕ, ◌<◌, ◌≤◌, List, [], ◌∷◌, length, map, None, arith, length-append}
use Rattle.std.specs.List.{AllByRecursion}
use Rattle.std.proofs.lemmas.List.{length-map}
use Rattle.std.proofs.lemmas.Map.Steps.{length-le_from_distinct_below}
use Rattle.std.proofs.lemmas.Option.{slice_get_within}
use Rattle.seq_objects.specs.declared.act.Act.{Act}
use Rattle.seq_objects.specs.declared.act.Act.TheVariants.{Call}
use Rattle.seq_objects.proofs.Elements.{each_at, each_mapped, each_so}
use Rattle.sp_order.specs.Jobs.{JobValue}
use Rattle.sp_order.specs.Sources.{IsCallLeaf}
use Rattle.batch_history.specs.Book.{flat, IsBatch}
use Rattle.batch_history.specs.Lawful.{HasCallsWith}
use Rattle.batch_history.specs.Places.{place_of}
use Rattle.batch_history.specs.declared.batch.Entry.{Entry}
use Rattle.batch_history.specs.declared.report.Report.{Report}
use Rattle.batch_history.proofs.BookLemmas.Books.{each_in_book}
use Rattle.batch_history.proofs.BookLemmas.EntryLists.{distinct_tests}
use Rattle.batch_history.proofs.Few.{found_below}

-- no batch is empty, so there are no more of them than calls

some_calls : (batch : List Entry) → IsBatch batch → 0 < length batch
some_calls [] is = absurd (is.some (λ i. []))
some_calls (call ∷ calls) is = omega arith

pub few_batches : (book : List (List Entry)) → AllByRecursion IsBatch book → length book ≤ length (flat book)
few_batches [] are = omega arith
few_batches (batch ∷ book) are =
    let some = some_calls batch are.0 in
    let rest = few_batches book are.1 in
    let all = length-append batch (flat book) in
    omega (arith, some, rest, all)

call_below : (acts : List Act) (leaf : ℕ) → IsCallLeaf acts leaf → leaf < length acts
call_below acts leaf is = slice_get_within acts leaf (Call is.0) is.1

module _ (meaning : ℕ → ℕ) (job : JobValue) (report : Report) (calls : HasCallsWith meaning job report) where
  abbrev callers : List ℕ
  callers = map (λ (entry : Entry). entry.leaf) (flat report.history)

  pub few_calls : length (flat report.history) ≤ length job.acts
  few_calls =
      let below : AllByRecursion (λ leaf. leaf < length job.acts) callers =
      each_so (IsCallLeaf job.acts) (λ leaf. leaf < length job.acts) (call_below job.acts) callers calls.leaves.only in
      let few = length-le_from_distinct_below callers (length job.acts) (distinct_tests callers calls.leaves.distinct) (λ q. found_below (length job.acts) q callers below) in
      omega (arith, few, length-map (flat report.history) (λ (entry : Entry). entry.leaf))

  pub has_place : (leaf : ℕ) → IsCallLeaf job.acts leaf → place_of report.history leaf ≢ None
  has_place leaf is =
      each_at (λ n. place_of report.history n ≢ None) callers leaf
      (each_mapped (λ (entry : Entry). entry.leaf) (λ (entry : Entry). place_of report.history entry.leaf ≢ None) (λ n. place_of report.history n ≢ None) (λ entry has. has)
      (flat report.history) (each_in_book report.history))
      (calls.leaves.each leaf is)
