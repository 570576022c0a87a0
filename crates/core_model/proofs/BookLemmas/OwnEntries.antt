-- The entries of a worker in a book, and the one that a publish adds to them.
use Rattle.std.proofs.Common.{ℕ, suc, ◌≡◌, ◌≢◌, ◌⊎◌, ◌==◌, ◌&&◌, Bool, true, false, not, if◌then◌else◌, None, Some, List, [], ◌∷◌, ◌++◌, length, map, Contains, arith, refl, sym, ap, ◌∙◌, inl, inr, append-nil}
use Rattle.std.specs.List.{AllByRecursion}
use Rattle.std.proofs.lemmas.Bool.Decides.{nat_tests}
use Rattle.std.proofs.lemmas.Bool.{cases_eq}
use Rattle.seq_objects.specs.Pairs.{AreDistinct}
use Rattle.batch_history.specs.Book.{flat}
use Rattle.core_model.proofs.Words.{LeafNode, IsPlan, Entry, Task, Started, Event, Post, Publish, Keep, End, FinishLeaf, CoreJob, Hold, State, names}
use Rattle.core_model.specs.Entries.{entries_of}
use Rattle.core_model.specs.Events.{has_taken, Needs, Does, IsTakenCall, IsBatchOf}
use Rattle.core_model.specs.Invariant.Hold.{HoldInvariant}
use Rattle.core_model.specs.Invariant.Statuses.{is_taken_by}
use Rattle.core_model.specs.Operations.{leaf_of, Place, or_else, place_in, place_of}
use Rattle.core_model.specs.Waits.{task_place}
use Rattle.core_model.proofs.Inductive.Parts.{InductiveParts}
use Rattle.batch_history.proofs.BookLemmas.Books.{or_else_none, place_append, flat_append}
use Rattle.batch_history.proofs.BookLemmas.EntryLists.{distinct_leaves}
use Rattle.core_model.proofs.BookLemmas.EntryPlaces.{none_in, placed_in}
use Rattle.core_model.proofs.InvariantLemmas.Publish.{one_worker, not_in_book}
use Rattle.seq_objects.proofs.Elements.{each_so, each_mapped, each_at}

pub if_same : {A : Type 0} (a b : ℕ) (p q : A) → a ≡ b → (if a == b then p else q) ≡ p
if_same a b p q e = grind (arith, nat_tests)

pub if_other : {A : Type 0} (a b : ℕ) (p q : A) → a ≢ b → (if a == b then p else q) ≡ q
if_other a b p q e = grind (arith, nat_tests)

-- the entries of a worker in two lists
entries_append : (w : ℕ) (xs ys : List Entry) → entries_of w (xs ++ ys) ≡ entries_of w xs ++ entries_of w ys
entries_append w [] ys = refl
entries_append w (x ∷ xs) ys = let more = entries_append w xs ys in elim (cases_eq x.worker w) [
  | inl e ↦
      if_same x.worker w (x ∷ entries_of w (xs ++ ys)) (entries_of w (xs ++ ys)) e
      ∙ (ap (λ l. x ∷ l) more ∙ ap (λ l. l ++ entries_of w ys) (sym (if_same x.worker w (x ∷ entries_of w xs) (entries_of w xs) e)))
  | inr e ↦
      if_other x.worker w (x ∷ entries_of w (xs ++ ys)) (entries_of w (xs ++ ys)) e
      ∙ (more ∙ ap (λ l. l ++ entries_of w ys) (sym (if_other x.worker w (x ∷ entries_of w xs) (entries_of w xs) e)))
]

-- a worker that is none of those of the entries has none
no_entries : (w : ℕ) (xs : List Entry) → AllByRecursion (λ x. x ≢ w) (map (λ (e : Entry). e.worker) xs) → entries_of w xs ≡ []
no_entries w [] h = refl
no_entries w (x ∷ xs) h = if_other x.worker w (x ∷ entries_of w xs) (entries_of w xs) h.0 ∙ no_entries w xs h.1

-- the worker has exactly this entry
abbrev HasOne : ℕ → List Entry → Type 0
HasOne w xs = (e : Entry) × (entries_of w xs ≡ e ∷ []) × Contains xs e × (e.worker ≡ w)

-- of distinct workers each has one entry at most
one_or_none : (w : ℕ) (xs : List Entry) → AreDistinct (map (λ (e : Entry). e.worker) xs)
    → ((e : Entry) × (entries_of w xs ≡ e ∷ []) × Contains xs e × (e.worker ≡ w)) ⊎ AllByRecursion (λ x. x ≢ w) (map (λ (e : Entry). e.worker) xs)
one_or_none w [] h = inr tt
one_or_none w (x ∷ xs) h = elim (cases_eq x.worker w) [
  | inl e ↦
      let others = each_so (λ (y : ℕ). x.worker ≢ y) (λ (y : ℕ). y ≢ w) (λ y ne f. ne (e ∙ sym f)) (map (λ (e : Entry). e.worker) xs) h.0 in
      inl (x, if_same x.worker w (x ∷ entries_of w xs) (entries_of w xs) e ∙ ap (λ l. x ∷ l) (no_entries w xs others), (0, omega arith, refl), e)
  | inr ne ↦ elim (one_or_none w xs h.1) [
    | inl r ↦ inl (r.0, if_other x.worker w (x ∷ entries_of w xs) (entries_of w xs) ne ∙ r.1, (suc r.2.0, omega (arith, r.2.1), r.2.2), r.3)
    | inr r ↦ inr (ne, r)
  ]
]

-- before a publish no worker is answered, so each taken worker is still owed an answer
taken_still : (workers : ℕ) (s : State) (hd : Hold) (w : ℕ) → s.hold ≡ Some hd → hd.published ≡ false → HoldInvariant workers s.status s.call (Some hd)
    → is_taken_by s.hold w ≡ has_taken s.hold w
taken_still workers s hd w held unpublished h = rw held (by_answer (hd.taken w) (hd.answered w) (λ e. let f = h.6 w e in cc)) where
  by_answer : (t a : Bool) → a ≢ true → (t && not a) ≡ t
  by_answer true true h = absurd (h refl)
  by_answer true false h = refl
  by_answer false a h = refl

-- the place of a task's leaf, where the place of the leaf that it has started stays
place_stays : (job : CoreJob) (old new : List (List Entry)) (task : Task)
    → ((n start : ℕ) → task ≡ Started n start → place_of new (leaf_of (job.plan.kind n)) ≡ place_of old (leaf_of (job.plan.kind n)))
    → task_place job new task ≡ task_place job old task
place_stays job old new (Started n start) h = h n start refl
place_stays job old new _ h = refl

module _ (job : CoreJob) (laws : IsPlan job.plan) (s : State) (h : InductiveParts job s) (x : ℕ) (needs : Needs job s x Publish) (b : List Entry) (batch : IsBatchOf job s b) (w : ℕ) where
  abbrev longer : List (List Entry)
  longer = s.book ++ b ∷ []

  still : is_taken_by s.hold w ≡ has_taken s.hold w
  still = taken_still job.workers s needs.0 w needs.1.0 needs.4 (rw needs.1.0 at h.hold)

  added : entries_of w (flat longer) ≡ entries_of w (flat s.book) ++ entries_of w b
  added = ap (entries_of w) (flat_append s.book b) ∙ entries_append w (flat s.book) b

  -- no entry of the batch is of a worker that is not taken
  not_its : has_taken s.hold w ≡ false → (e : Entry) → IsTakenCall job s e → e.worker ≢ w
  not_its free e call same = let took = rw same at call.taken in absurd (cc)

  -- and none is of the leaf that such a worker has started
  not_there : has_taken s.hold w ≡ false → (n start : ℕ) → s.task w ≡ Started n start → (e : Entry) → IsTakenCall job s e → e.leaf ≢ leaf_of (job.plan.kind n)
  not_there free n start at e call same =
      let fits = rw at at (h.tasks.fits w) in
      let kind : job.plan.kind n ≡ Some (LeafNode e.leaf) = fits.0.1 ∙ ap (λ l. Some (LeafNode l)) (sym (same ∙ ap leaf_of fits.0.1)) in
      let node : n ≡ call.node = laws.one_node n e.leaf kind ∙ sym (laws.one_node call.node e.leaf call.started.0) in
      let here : h.holder n ≡ Some w = h.tasks.holders.named w n (ap names at) in
      let there : h.holder call.node ≡ Some e.worker = h.tasks.holders.named e.worker call.node (ap names call.started.2) in
      let both : Some w ≡ Some e.worker = sym here ∙ (ap h.holder node ∙ there) in
      let worker : e.worker ≡ w = cc in
      not_its free e call worker

  pub untaken_stays : is_taken_by s.hold w ≡ false
      → (entries_of w (flat longer) ≡ entries_of w (flat s.book)) × (task_place job longer (s.task w) ≡ task_place job s.book (s.task w))
  untaken_stays taken =
      let free = sym still ∙ taken in
      let none = no_entries w b (each_mapped (λ (e : Entry). e.worker) (IsTakenCall job s) (λ (y : ℕ). y ≢ w) (not_its free) b batch.only) in (
        added ∙ (ap (λ l. entries_of w (flat s.book) ++ l) none ∙ append-nil (entries_of w (flat s.book))),
        place_stays job s.book longer (s.task w) (λ n start at.
            let leaf : ℕ = leaf_of (job.plan.kind n) in
            let nowhere = none_in (length s.book) 0 b leaf (each_mapped (λ (e : Entry). e.leaf) (IsTakenCall job s) (λ (y : ℕ). y ≢ leaf) (not_there free n start at) b batch.only) in
            place_append s.book b leaf ∙ (ap (or_else (place_of s.book leaf)) nowhere ∙ or_else_none (place_of s.book leaf))),
      )

  -- the entry of the worker's call, once it is published
  abbrev IsAdded : Type 0
  IsAdded =
      (task_place job s.book (s.task w) ≡ None)
      × (place : Place) × (task_place job longer (s.task w) ≡ Some place) × (place.batch ≡ length s.book) × (place.entry.worker ≡ w)
      × (entries_of w (flat longer) ≡ entries_of w (flat s.book) ++ place.entry ∷ [])

  added_entry : (e : Entry) → entries_of w b ≡ e ∷ [] → Contains b e → e.worker ≡ w → IsAdded
  added_entry e only there same =
      let call = each_at (IsTakenCall job s) b e batch.only there in
      let started : s.task w ≡ Started call.node call.started.1 = ap s.task (sym same) ∙ call.started.2 in
      let nowhere = not_in_book job s needs.0 e h needs.1.0 needs.4 call in
      let distinct = distinct_leaves (IsTakenCall job s) (one_worker job s h.holder laws h.tasks.holders) b batch.only batch.is_batch.workers in
      let at = placed_in (length s.book) 0 b e distinct there in
      let found : place_of longer e.leaf ≡ Some at.at =
      place_append s.book b e.leaf ∙ (ap (λ o. or_else o (place_in (length s.book) 0 b e.leaf)) nowhere ∙ at.is) in (
        rw (started, call.started.0) nowhere,
        at.at,
        rw (started, call.started.0) found,
        at.in_batch,
        ap (λ (y : Entry). y.worker) at.entry ∙ same,
        added ∙ ap (λ l. entries_of w (flat s.book) ++ l) (only ∙ ap (λ y. y ∷ []) (sym at.entry)),
      )

  pub taken_is_added : is_taken_by s.hold w ≡ true → IsAdded
  taken_is_added taken = elim (one_or_none w b batch.is_batch.workers) [
    | inl r ↦ added_entry r.0 r.1 r.2 r.3
    | inr none ↦ absurd (each_at (λ (y : ℕ). y ≢ w) (map (λ (e : Entry). e.worker) b) w none (batch.each w (sym still ∙ taken)) refl)
  ]

-- no other event changes the book
pub same_book : (job : CoreJob) (old new : State) (x : ℕ) (event : Event) → Does job old x event new → event ≢ Publish → new.book ≡ old.book
same_book job old new x Publish does other = absurd (other refl)
same_book job old new x (Post n t) does other = ap (λ (t : State). t.book) does
same_book job old new x (Keep n t v) does other = ap (λ (t : State). t.book) does
same_book job old new x (End n t) does other = ap (λ (t : State). t.book) does
same_book job old new x (FinishLeaf n t e) does other = ap (λ (t : State). t.book) does
same_book job old new x _ does other = ap (λ (t : State). t.book) does
