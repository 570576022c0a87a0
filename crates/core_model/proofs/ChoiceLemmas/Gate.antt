-- The turns of the worker that has the flag: the choice is an event whose needs are met.
use Rattle.std.proofs.Common.{ℕ, ◌≡◌, ◌≢◌, ◌≤◌, ◌&&◌, not, nat_lt, Bool, true, false, if◌then◌else◌, Option, Some, None, List, arith, refl, ltb-true, ltb-false}
use Rattle.core_model.proofs.Words.{LeafNode, Entry, Progress, Taken, Task, Started, Status, Executing, CallState, Take, Publish, CoreJob, Hold, State, names}
use Rattle.core_model.specs.Operations.{leaf_of, IsCall, Place, place_of}
use Rattle.core_model.specs.Invariant.Tasks.{TaskFits}
use Rattle.core_model.specs.Events.{Needs, Holds}
use Rattle.core_model.specs.Invariant.Statuses.{IsAtCall, is_taken_by}
use Rattle.core_model.specs.Invariant.Hold.{is_published, HoldInvariant}
use Rattle.core_model.proofs.Inductive.Book.{StatusFits, booked_by, worker_at}
use Rattle.core_model.proofs.Inductive.Parts.{InductiveParts}
use Rattle.core_model.specs.Choice.{some_below, least_below, is_owed, leaf_named, answer_with, choice_answer, choice_holding}
use Rattle.core_model.proofs.ChoiceLemmas.Search.{if_both, some_is_found, none_is_found, least_is_chosen, no_least}
use Rattle.core_model.proofs.ChoiceLemmas.Tasks.{Gives}

-- what is known of a worker whose call is taken and not answered
pub taken_row : (job : CoreJob) (book : List (List Entry)) (t : Task) (st : Status) (c : CallState) (b : Bool) → b ≡ true → StatusFits job book t st c b → (st ≡ Executing) × IsAtCall job t
taken_row job book t st c b taken h = grind arith

both_true : (a b : Bool) → (a && not b) ≡ true → (a ≡ true) × (b ≡ false)
both_true true false e = (refl, refl)
both_true true true e = absurd (grind arith)
both_true false b e = absurd (grind arith)

not_both : (a b : Bool) → a ≡ true → (a && not b) ≡ false → b ≡ true
not_both a true e f = refl
not_both true false e f = absurd (grind arith)
not_both false false e f = absurd (grind arith)

-- a started call whose batch is published has its place
booked_executing : (p : Option Place) (x : Progress) (o : Option ℕ) (task : ℕ → Task) (status : ℕ → Status) (call : ℕ → CallState) (b : Bool) (u n t : ℕ)
    → x ≡ Taken → o ≡ Some u → task u ≡ Started n t → status u ≡ Executing → b ≡ true → worker_at p ≡ booked_by x o task status call b → p ≢ None
booked_executing p x o task status call b u n t taken held mine executing published booked none = grind arith

module _ (job : CoreJob) (s : State) (w : ℕ) (h : InductiveParts job s) (hd : Hold) (holds : Holds s w hd) where
  stands : HoldInvariant job.workers s.status s.call (Some hd)
  stands = rw holds.0 at h.hold

  has_looked : nat_lt hd.looks job.workers ≡ false → hd.looks ≡ job.workers
  has_looked e = let below : hd.looks ≤ job.workers = stands.1 in let above : job.workers ≤ hd.looks = ltb-false hd.looks job.workers e in omega (arith, below, above)

  answer_with_gives : (u n t leaf : ℕ) (o : Option Place) → hd.published ≡ true → hd.taken u ≡ true → hd.answered u ≡ false
      → job.plan.kind n ≡ Some (LeafNode leaf) → s.task u ≡ Started n t → place_of s.book leaf ≡ o → o ≢ None → Gives job s w (answer_with u o)
  answer_with_gives u n t leaf None published took owed kind mine at some = absurd (some refl)
  answer_with_gives u n t leaf (Some place) published took owed kind mine at some = (hd, holds, published, took, owed, (n, leaf, (kind, t, mine), rw at refl))

  answer_started : (u n t leaf : ℕ) → hd.published ≡ true → hd.taken u ≡ true → hd.answered u ≡ false → s.status u ≡ Executing
      → IsCall job (leaf_of (job.plan.kind n)) → s.task u ≡ Started n t → s.node n ≡ Taken → job.plan.kind n ≡ Some (LeafNode leaf)
      → Gives job s w (answer_with u (place_of s.book (leaf_of (job.plan.kind n))))
  answer_started u n t leaf published took owed executing calls mine taken kind =
      let call : IsCall job leaf = rw kind at calls in
      let public : is_published s.hold ≡ true = rw holds.0 published in
      let some = booked_executing (place_of s.book leaf) (s.node n) (h.holder n) s.task s.status s.call (is_published s.hold) u n t taken
      (h.tasks.holders.named u n (rw mine refl)) mine executing public (h.booked n leaf kind call) in
      rw kind (answer_with_gives u n t leaf (place_of s.book leaf) published took owed kind mine refl some)

  answer_task : (u : ℕ) (t : Task) → s.task u ≡ t → IsAtCall job t → TaskFits job.plan s.node s.mark t → hd.published ≡ true → hd.taken u ≡ true → hd.answered u ≡ false
      → s.status u ≡ Executing → Gives job s w (answer_with u (place_of s.book (leaf_named job.plan (names t))))
  answer_task u (Started n start) mine calls fits published took owed executing = answer_started u n start fits.0.0 published took owed executing calls mine fits.1 fits.0.1
  answer_task u _ mine calls fits published took owed executing = absurd calls

  answer_gives : (o : Option ℕ) → least_below (is_owed hd) job.workers ≡ o → hd.looks ≡ job.workers → ((u : ℕ) → hd.taken u ≡ true → hd.published ≡ true)
      → Gives job s w (choice_answer job.plan s o)
  answer_gives None none looks public =
      (hd, holds, looks, λ u took. not_both (hd.taken u) (hd.answered u) took (no_least (is_owed hd) job.workers none u (rw looks at (stands.2 u took))))
  answer_gives (Some u) least looks public =
      let owed = both_true (hd.taken u) (hd.answered u) (least_is_chosen (is_owed hd) job.workers u least) in
      let taken : is_taken_by s.hold u ≡ true = rw holds.0 (least_is_chosen (is_owed hd) job.workers u least) in
      let row = taken_row job s.book (s.task u) (s.status u) (s.call u) (is_taken_by s.hold u) taken (h.statuses u) in
      answer_task u (s.task u) refl row.1 (h.tasks.fits u) (public u owed.0) owed.0 owed.1 row.0

  publish_gives : hd.looks ≡ job.workers → (some_below hd.taken job.workers && not hd.published) ≡ true → Needs job s w Publish
  publish_gives looks e =
      let both = both_true (some_below hd.taken job.workers) hd.published e in
      (hd, holds, looks, some_is_found hd.taken job.workers both.0, both.1)

  -- a call is taken, so the batch is published
  is_public : hd.looks ≡ job.workers → (some_below hd.taken job.workers && not hd.published) ≡ false → (b : Bool) → some_below hd.taken job.workers ≡ b
      → (u : ℕ) → hd.taken u ≡ true → hd.published ≡ true
  is_public looks e true some u took = not_both (some_below hd.taken job.workers) hd.published some e
  is_public looks e false none u took = let f = none_is_found hd.taken job.workers none u (rw looks at (stands.2 u took)) in absurd cc

  pub holding_gives : Gives job s w (choice_holding job s hd)
  holding_gives =
      if_both (Gives job s w) (nat_lt hd.looks job.workers) (Some (Take hd.looks))
      (if some_below hd.taken job.workers && not hd.published then Some Publish else choice_answer job.plan s (least_below (is_owed hd) job.workers))
      (λ e. (hd, holds, refl, ltb-true hd.looks job.workers e))
      (λ e. if_both (Gives job s w) (some_below hd.taken job.workers && not hd.published) (Some Publish) (choice_answer job.plan s (least_below (is_owed hd) job.workers))
      (λ f. publish_gives (has_looked e) f)
      (λ f. answer_gives (least_below (is_owed hd) job.workers) refl (has_looked e) (is_public (has_looked e) f (some_below hd.taken job.workers) refl)))
