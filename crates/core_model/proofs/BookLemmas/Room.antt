-- There is at most one entry for each leaf that calls, so the numbers of batches and of places have room.
use Rattle.std.proofs.Common.{ℕ, ◌≡◌, ◌<◌, ◌≤◌, Some, List, [], ◌∷◌, length, map, arith, refl, eqb-true, length-append}
use Rattle.std.proofs.lemmas.List.{length-map}
use Rattle.std.specs.List.{AllByRecursion}
use Rattle.std.proofs.lemmas.Map.Steps.{length-le_from_distinct_below}
use Rattle.std.proofs.lemmas.Map.Views.{Contains-from_any}
use Rattle.core_model.proofs.Words.{Entry, CoreJob, State}
use Rattle.seq_objects.specs.Pairs.{AreDistinct}
use Rattle.batch_history.specs.Book.{flat, IsBatch}
use Rattle.core_model.specs.Operations.{op_of, IsCall}
use Rattle.core_model.proofs.BookLemmas.Operations.{is_call}
use Rattle.core_model.proofs.Inductive.Parts.{InductiveParts}
use Rattle.batch_history.proofs.BookLemmas.EntryLists.{distinct_tests}
use Rattle.seq_objects.proofs.Elements.{each_so, each_mapped, each_at}

-- there are no more distinct numbers than numbers below their bound
pub distinct_few : (xs : List ℕ) (most : ℕ) → AreDistinct xs → AllByRecursion (λ x. x < most) xs → length xs ≤ most
distinct_few xs most distinct below =
    length-le_from_distinct_below xs most (distinct_tests xs distinct) (λ q found. each_at (λ x. x < most) xs q below (Contains-from_any eqb-true q xs found))

-- no batch is empty, so there are no more batches than entries
pub few_batches : (book : List (List Entry)) → AllByRecursion IsBatch book → length book ≤ length (flat book)
few_batches [] h = omega arith
few_batches ([] ∷ book) h = absurd (h.0.some refl)
few_batches ((e ∷ es) ∷ book) h = let more = few_batches book h.1 in omega (arith, length-append es (flat book), more)

module _ (job : CoreJob) (s : State) (h : InductiveParts job s) where
  -- the leaves that are in the book call
  pub leaves_call : AllByRecursion (λ (e : Entry). IsCall job e.leaf) (flat s.book)
  leaves_call = each_so (λ (e : Entry). op_of job s.book e.leaf ≡ Some e.op) (λ (e : Entry). IsCall job e.leaf) (λ e is. is_call job s.book e.leaf e.op is) (flat s.book) h.book.operations

  -- there are no more entries than numbers of leaves that call
  pub few_entries : (most : ℕ) → ((leaf : ℕ) → IsCall job leaf → leaf < most) → length (flat s.book) ≤ most
  few_entries most below =
      let few = distinct_few (map (λ (e : Entry). e.leaf) (flat s.book)) most h.book.leaves
      (each_mapped (λ (e : Entry). e.leaf) (λ (e : Entry). IsCall job e.leaf) (λ leaf. leaf < most) (λ e is. below e.leaf is) (flat s.book) leaves_call) in
      rw length-map at few

  -- so batches and places have numbers below that of the nodes
  pub book_room : ((leaf : ℕ) → IsCall job leaf → leaf < job.plan.count) → (length (flat s.book) ≤ job.plan.count) × (length s.book ≤ length (flat s.book))
  book_room below = (few_entries job.plan.count below, few_batches s.book h.book.batches)
