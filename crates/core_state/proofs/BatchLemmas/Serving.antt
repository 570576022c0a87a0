-- The shop may serve the taken calls: none of their leaves is in the book yet.
use Rattle.std.proofs.Common.{ℕ, ◌≡◌, ◌≢◌, ◌<◌, ◌≤◌, ◌+◌, true, false, Some, List, [], ◌∷◌, ◌++◌, length, map, arith, sym, subst, ◌∙◌, ap, length-append}
use Rattle.std.specs.Prelude.{Contains}
use Rattle.std.specs.List.{AllByRecursion}
use Rattle.std.proofs.lemmas.List.{length-map, map-append}
use Rattle.std.proofs.lemmas.Simd.{map-map}
use Rattle.seq_objects.specs.Pairs.{AreDistinct}
use Rattle.seq_objects.specs.declared.call.Call.{Call}
use Rattle.batch_history.specs.Book.{flat}
use Rattle.batch_history.specs.Serving.{call_in, calls_in}
use Rattle.launch_batch.specs.Calls.{MayServe}
use Rattle.launch_batch.proofs.ListLemmas.Elements.{apart_turned}
use Rattle.core_model.proofs.Words.{IsPlan, Entry, CoreJob, Hold, State}
use Rattle.core_model.specs.Operations.{IsCall}
use Rattle.core_model.specs.Events.{IsTakenCall}
use Rattle.core_model.specs.Batches.{IsCallOf, AreTakenCalls}
use Rattle.core_model.proofs.Inductive.Parts.{InductiveParts}
use Rattle.core_model.proofs.BookLemmas.Operations.{is_call}
use Rattle.batch_history.proofs.BookLemmas.Books.{flat_append}
use Rattle.core_model.proofs.BookLemmas.Room.{distinct_few, leaves_call}
use Rattle.core_model.proofs.InvariantLemmas.Publish.{leaves_apart}
use Rattle.core_model.proofs.BatchLemmas.Replied.{replied, replied_are}
use Rattle.core_model.proofs.BatchLemmas.Made.{taken_below, only_taken}
use Rattle.seq_objects.proofs.Elements.{each_append, each_front, each_so, each_mapped, distinct_back}

-- if two lists together are distinct, they share no number
across : (xs ys : List ℕ) → AreDistinct (xs ++ ys) → AllByRecursion (λ x. AllByRecursion (λ y. x ≢ y) ys) xs
across [] ys h = tt
across (x ∷ xs) ys h = ((each_front (λ y. x ≢ y) xs ys h.0).1, across xs ys h.1)

-- a taken worker has a call
some_call : (calls : List Call) (w : ℕ) → Contains (map (λ (call : Call). call.worker) calls) w → 0 < length calls
some_call [] w there = absurd (omega (arith, there.1))
some_call (call ∷ calls) w there = omega arith

module _ (job : CoreJob) (s : State) (hd : Hold) (laws : IsPlan job.plan) (h : InductiveParts job s) (there : s.hold ≡ Some hd) (unpublished : hd.published ≡ false)
    (calls : List Call) (taken : AreTakenCalls job s.book s.task hd.taken calls) where
  -- the entries the taken calls would have
  abbrev entries : List Entry
  entries = replied s.objects calls

  are : calls_in entries ≡ calls
  are = replied_are s.objects calls

  leaves_are : map (λ (e : Entry). e.leaf) entries ≡ map (λ (call : Call). call.leaf) calls
  leaves_are = sym (map-map (λ (call : Call). call.leaf) call_in entries) ∙ ap (map (λ (call : Call). call.leaf)) are

  workers_are : map (λ (e : Entry). e.worker) entries ≡ map (λ (call : Call). call.worker) calls
  workers_are = sym (map-map (λ (call : Call). call.worker) call_in entries) ∙ ap (map (λ (call : Call). call.worker)) are

  only : AllByRecursion (IsTakenCall job s) entries
  only = only_taken job s hd h there entries (subst (AreTakenCalls job s.book s.task hd.taken) (sym are) taken)

  abbrev book_leaves : List ℕ
  book_leaves = map (λ (e : Entry). e.leaf) (flat s.book)

  -- the leaves of the book and of the taken calls are distinct
  distinct : AreDistinct (book_leaves ++ map (λ (e : Entry). e.leaf) entries)
  distinct =
      let apart = leaves_apart job s hd entries h laws there unpublished only (subst AreDistinct (sym workers_are) taken.distinct) in
      subst AreDistinct (map-append (λ (e : Entry). e.leaf) (flat s.book) entries)
      (subst (λ l. AreDistinct (map (λ (e : Entry). e.leaf) l)) (flat_append s.book entries) apart)

  all_call : AllByRecursion (λ (e : Entry). IsCall job e.leaf) (flat s.book ++ entries)
  all_call =
      each_append (λ (e : Entry). IsCall job e.leaf) (flat s.book) entries (leaves_call job s h)
      (each_so (IsTakenCall job s) (λ (e : Entry). IsCall job e.leaf) (λ e call. is_call job s.book e.leaf e.op call.operation) entries only)

  -- so the book and the taken calls together number at most the calling leaves
  few : (most : ℕ) → ((leaf : ℕ) → IsCall job leaf → leaf < most) → length (flat s.book) + length calls ≤ most
  few most below =
      let leaf = λ (e : Entry). e.leaf in
      let all = subst AreDistinct (sym (map-append leaf (flat s.book) entries)) distinct in
      let least = distinct_few (map leaf (flat s.book ++ entries)) most all
      (each_mapped leaf (λ (e : Entry). IsCall job e.leaf) (λ u. u < most) (λ e is. below e.leaf is) (flat s.book ++ entries) all_call) in
      let long = length-append (flat s.book) entries in
      let same : length entries ≡ length calls = sym (length-map entries call_in) ∙ ap length are in
      omega (arith, (rw length-map at least), long, same)

  pub may_serve : (u : ℕ) × (hd.taken u ≡ true) → job.workers ≤ 32 → ((leaf : ℕ) → IsCall job leaf → leaf < 20000) → MayServe s.book calls
  may_serve some workers below = record {
    some = some_call calls some.0 (taken.each some.0 (taken_below job s hd h there some.0 some.1) some.1);
    workers = taken.distinct;
    below = each_so (λ (call : Call). (hd.taken call.worker ≡ true) × IsCallOf job s.book (s.task call.worker) call) (λ (call : Call). call.worker < 32)
        (λ call is. let low = taken_below job s hd h there call.worker is.0 in omega (arith, low, workers)) calls taken.only;
    leaves = subst AreDistinct leaves_are (distinct_back book_leaves (map (λ (e : Entry). e.leaf) entries) distinct);
    new = subst (AllByRecursion (λ leaf. AllByRecursion (λ other. leaf ≢ other) book_leaves)) leaves_are
        (apart_turned book_leaves (map (λ (e : Entry). e.leaf) entries) (across book_leaves (map (λ (e : Entry). e.leaf) entries) distinct));
    most = few 20000 below;
  }
