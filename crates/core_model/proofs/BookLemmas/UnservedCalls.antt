-- The entries of the book, and the calls that no batch has yet, are calls of distinct leaves, so there is room for all.
use Rattle.std.proofs.Common.{ℕ, ◌≡◌, ◌≢◌, ◌<◌, ◌≤◌, ◌+◌, Some, None, List, [], ◌∷◌, ◌++◌, length, map, arith, refl, sym, ap, ◌∙◌, subst, inl, inr, length-append}
use Rattle.std.proofs.lemmas.List.{length-map}
use Rattle.std.specs.List.{AllByRecursion}
use Rattle.core_model.proofs.Words.{LeafNode, IsPlan, Entry, Taken, Task, Started, Out, CoreJob, State, names}
use Rattle.seq_objects.specs.Pairs.{AreDistinct}
use Rattle.batch_history.specs.Book.{flat}
use Rattle.core_model.specs.Choice.{leaf_named}
use Rattle.core_model.specs.Entries.{IsUnserved}
use Rattle.core_model.specs.Invariant.{Parts}
use Rattle.core_model.specs.Invariant.Hold.{is_published}
use Rattle.core_model.specs.Invariant.Statuses.{IsAtCall}
use Rattle.core_model.specs.Measure.{call_count}
use Rattle.core_model.specs.Operations.{leaf_of, IsCall, place_of}
use Rattle.core_model.proofs.Inductive.Parts.{InductiveParts}
use Rattle.batch_history.proofs.BookLemmas.Books.{each_in_book}
use Rattle.core_model.proofs.BookLemmas.EntryCount.{each_calls, few_leaves}
use Rattle.batch_history.proofs.BookLemmas.EntryLists.{apart_by}
use Rattle.core_model.proofs.BookLemmas.Room.{distinct_few}
use Rattle.core_model.proofs.InvariantLemmas.Publish.{no_entry, not_booked}
use Rattle.seq_objects.proofs.Elements.{each_append, each_mapped, distinct_append}
use Rattle.core_model.proofs.WaitLemmas.From.{pending_booked}

-- a function that is injective on `P` maps distinct elements to distinct values
apart_mapped : (f : ℕ → ℕ) (P : ℕ → Type 0) → ((a b : ℕ) → P a → P b → f a ≡ f b → a ≡ b) → (x : ℕ) → P x → (ys : List ℕ) → AllByRecursion P ys
    → AllByRecursion (λ y. x ≢ y) ys → AllByRecursion (λ z. f x ≢ z) (map f ys)
apart_mapped f P tells x p [] h apart = tt
apart_mapped f P tells x p (y ∷ ys) h apart = (λ same. apart.0 (tells x y p h.0 same), apart_mapped f P tells x p ys h.1 apart.1)

distinct_mapped : (f : ℕ → ℕ) (P : ℕ → Type 0) → ((a b : ℕ) → P a → P b → f a ≡ f b → a ≡ b) → (xs : List ℕ) → AllByRecursion P xs → AreDistinct xs → AreDistinct (map f xs)
distinct_mapped f P tells [] h distinct = tt
distinct_mapped f P tells (x ∷ xs) h distinct = (apart_mapped f P tells x h.0 xs h.1 distinct.0, distinct_mapped f P tells xs h.1 distinct.1)

-- a task that is at a call is started
at_started : (job : CoreJob) (t : Task) → IsAtCall job t → (n : ℕ) × (start : ℕ) × (t ≡ Started n start) × IsCall job (leaf_of (job.plan.kind n))
at_started job (Started n start) h = (n, start, refl, h)
at_started job _ h = absurd h

-- the call of worker w, whose leaf the book does not have
record WaitingCall (job : CoreJob) (s : State) (w : ℕ) : Type 0 where
  node : ℕ
  start : ℕ
  leaf : ℕ
  started : s.task w ≡ Started node start
  kind : job.plan.kind node ≡ Some (LeafNode leaf)
  calls : IsCall job leaf
  absent : place_of s.book leaf ≡ None

module _ (job : CoreJob) (s : State) (laws : IsPlan job.plan) (parts : Parts job s) (h : InductiveParts job s) where
  call_is_out : (w : ℕ) → IsUnserved s w → s.call w ≡ Out
  call_is_out w (inl pending) = (parts.statuses.out w).1 (λ free. cc)
  call_is_out w (inr executing) = (parts.statuses.out w).1 (λ free. let e = executing.0 in cc)

  not_yet : (w n start leaf : ℕ) → s.task w ≡ Started n start → job.plan.kind n ≡ Some (LeafNode leaf) → IsCall job leaf → s.node n ≡ Taken → IsUnserved s w
      → place_of s.book leaf ≡ None
  not_yet w n start leaf started kind calls taken (inl pending) =
      no_entry (place_of s.book leaf) (h.booked n leaf kind calls
      ∙ pending_booked (s.node n) (h.holder n) s.task s.status s.call (is_published s.hold) w n start taken (h.tasks.holders.named w n (ap names started)) started pending
      (call_is_out w (inl pending)))
  not_yet w n start leaf started kind calls taken (inr executing) =
      no_entry (place_of s.book leaf) (rw executing.1 at (h.booked n leaf kind calls)
      ∙ not_booked (s.node n) (h.holder n) s.task s.status s.call w n start taken (h.tasks.holders.named w n (ap names started)) started executing.0
      (call_is_out w (inr executing)))

  waiting : (w : ℕ) → IsUnserved s w → WaitingCall job s w
  waiting w unserved =
      let out = call_is_out w unserved in
      let at = at_started job (s.task w) (parts.statuses.at_call w (λ e. cc)) in
      let fits = rw at.2 at (parts.tasks.says w) in
      let leaf : ℕ = fits.0.0 in
      let calls : IsCall job leaf = rw fits.0.1 at at.3 in
      record {
        node = at.0;
        start = at.1;
        leaf = leaf;
        started = at.2;
        kind = fits.0.1;
        calls = calls;
        absent = not_yet w at.0 at.1 leaf at.2 fits.0.1 calls fits.1 unserved;
      }

  -- the leaf of the call that a worker has out
  abbrev leaf_called : ℕ → ℕ
  leaf_called w = leaf_named job.plan (names (s.task w))

  leaf_is : (w : ℕ) (call : WaitingCall job s w) → leaf_called w ≡ call.leaf
  leaf_is w call = rw (call.started, call.kind) refl

  one_caller : (v w : ℕ) → IsUnserved s v → IsUnserved s w → leaf_called v ≡ leaf_called w → v ≡ w
  one_caller v w p q same =
      let a = waiting v p in
      let b = waiting w q in
      let leaf : a.leaf ≡ b.leaf = sym (leaf_is v a) ∙ (same ∙ leaf_is w b) in
      let node : a.node ≡ b.node = laws.one_node a.node a.leaf a.kind ∙ (ap job.plan.node_of leaf ∙ sym (laws.one_node b.node b.leaf b.kind)) in
      parts.tasks.apart v w b.node (ap names a.started ∙ ap Some node) (ap names b.started)

  -- the leaves of the entries, and of the calls of some workers that no batch has yet
  abbrev leaves_with : List ℕ → List ℕ
  leaves_with workers = map (λ (e : Entry). e.leaf) (flat s.book) ++ map leaf_called workers

  all_call : (workers : List ℕ) → AllByRecursion (IsUnserved s) workers → AllByRecursion (IsCall job) (leaves_with workers)
  all_call workers unserved =
      each_append (IsCall job) (map (λ (e : Entry). e.leaf) (flat s.book)) (map leaf_called workers)
      (each_calls job s.book (flat s.book) parts.book.operations)
      (each_mapped leaf_called (IsUnserved s) (IsCall job) (λ w q. let call = waiting w q in subst (IsCall job) (sym (leaf_is w call)) call.calls) workers unserved)

  all_distinct : (workers : List ℕ) → AreDistinct workers → AllByRecursion (IsUnserved s) workers → AreDistinct (leaves_with workers)
  all_distinct workers distinct unserved =
      distinct_append (map (λ (e : Entry). e.leaf) (flat s.book)) (map leaf_called workers) parts.book.leaves
      (distinct_mapped leaf_called (IsUnserved s) one_caller workers unserved distinct)
      (apart_by (λ l. place_of s.book l ≢ None) (map (λ (e : Entry). e.leaf) (flat s.book)) (map leaf_called workers)
      (each_mapped (λ (e : Entry). e.leaf) (λ (e : Entry). place_of s.book e.leaf ≢ None) (λ l. place_of s.book l ≢ None) (λ e p. p) (flat s.book) (each_in_book s.book))
      (each_mapped leaf_called (IsUnserved s) (λ l. (place_of s.book l ≢ None) → ⊥)
      (λ w q there. let call = waiting w q in there (ap (place_of s.book) (leaf_is w call) ∙ call.absent)) workers unserved))

  length_with : (workers : List ℕ) → length (leaves_with workers) ≡ length (flat s.book) + length workers
  length_with workers =
      let both = length-append (map (λ (e : Entry). e.leaf) (flat s.book)) (map leaf_called workers) in
      let entries = length-map (flat s.book) (λ (e : Entry). e.leaf) in
      let calls = length-map workers leaf_called in
      omega (arith, both, entries, calls)

  -- so they are together no more than the leaves that call
  pub among_calls : ((leaf : ℕ) → IsCall job leaf → (n : ℕ) × (job.plan.kind n ≡ Some (LeafNode leaf)))
      → (workers : List ℕ) → AreDistinct workers → AllByRecursion (IsUnserved s) workers → length (flat s.book) + length workers ≤ call_count job
  among_calls there workers distinct unserved =
      rw (length_with workers) at (few_leaves job laws there (leaves_with workers) (all_call workers unserved) (all_distinct workers distinct unserved))

  -- and no more than the numbers of leaves that call
  pub among_leaves : (most : ℕ) → ((leaf : ℕ) → IsCall job leaf → leaf < most)
      → (workers : List ℕ) → AreDistinct workers → AllByRecursion (IsUnserved s) workers → length (flat s.book) + length workers ≤ most
  among_leaves most below workers distinct unserved =
      rw (length_with workers) at (distinct_few (leaves_with workers) most (all_distinct workers distinct unserved) (each_below (leaves_with workers) (all_call workers unserved))) where
        each_below : (xs : List ℕ) → AllByRecursion (IsCall job) xs → AllByRecursion (λ leaf. leaf < most) xs
        each_below [] h = tt
        each_below (x ∷ xs) h = (below x h.0, each_below xs h.1)
