-- Consequences of the invariant for a worker and its call, in the form in which the steps use them.
use Rattle.std.proofs.Common.{ℕ, ◌≡◌, ◌≢◌, Bool, true, false, Option as Maybe, None, Some, refl, sym, ap, ◌∙◌, inl, inr}
use Rattle.sp_order.specs.declared.node.Kind.TheVariants.{LeafNode}
use Rattle.core_model.specs.declared.task.Task.TheVariants.{Started, Kept, Ended}
use Rattle.core_model.specs.declared.progress.Progress.TheVariants.{Taken, Ran}
use Rattle.core_model.specs.declared.status.Receipt.{Receipt}
use Rattle.core_model.specs.declared.status.Status.TheVariants.{Free, Executing, Served}
use Rattle.core_model.specs.declared.status.CallState.TheVariants.{Out, Got}
use Rattle.core_model.specs.State.{CoreJob, State}
use Rattle.core_model.specs.Operations.{IsCall, Place, place_of}
use Rattle.core_model.specs.Tasks.{names}
use Rattle.core_model.specs.Invariant.Statuses.{is_taken_by}
use Rattle.core_model.specs.Invariant.Hold.{is_published}
use Rattle.core_model.specs.Invariant.{Parts}
use Rattle.core_model.proofs.ReportLemmas.RootDone.{is_free as is_free_if}
use Rattle.std.proofs.lemmas.Bool.{false_from_ne_true}

-- a worker whose call is not out is free, and one whose call is out is not
pub is_free : (job : CoreJob) (s : State) (k : ℕ) → Parts job s → s.call k ≢ Out → s.status k ≡ Free
is_free job s k parts ne = is_free_if (s.status k) (λ trapped. ne ((parts.statuses.out k).1 trapped))

pub is_trapped : (job : CoreJob) (s : State) (k : ℕ) → Parts job s → s.call k ≡ Out → s.status k ≢ Free
is_trapped job s k parts out = (parts.statuses.out k).0 out

-- so a worker whose status is not free has its call out
pub is_out : (job : CoreJob) (s : State) (k : ℕ) → Parts job s → s.status k ≢ Free → s.call k ≡ Out
is_out job s k parts trapped = (parts.statuses.out k).1 trapped

-- a worker is executing exactly if the hold has taken it and not answered
pub not_taken : (job : CoreJob) (s : State) (k : ℕ) → Parts job s → s.status k ≢ Executing → is_taken_by s.hold k ≡ false
not_taken job s k parts ne = false_from_ne_true (is_taken_by s.hold k) (λ e. ne ((parts.statuses.executing k).1 e))

pub is_executing : (job : CoreJob) (s : State) (k : ℕ) → Parts job s → is_taken_by s.hold k ≡ true → s.status k ≡ Executing
is_executing job s k parts e = (parts.statuses.executing k).1 e

executing_taken : (job : CoreJob) (s : State) (k : ℕ) → Parts job s → s.status k ≡ Executing → is_taken_by s.hold k ≡ true
executing_taken job s k parts e = (parts.statuses.executing k).0 e

-- two workers whose tasks name one node are one
pub same_worker : (job : CoreJob) (s : State) (v w n : ℕ) → Parts job s → names (s.task v) ≡ Some n → names (s.task w) ≡ Some n → v ≡ w
same_worker job s v w n parts e f = parts.tasks.apart v w n e f

-- a leaf that a task has started is taken
pub started_is_taken : (job : CoreJob) (s : State) (w n t : ℕ) → Parts job s → s.task w ≡ Started n t → s.node n ≡ Taken
started_is_taken job s w n t parts task = let fits = rw task at (parts.tasks.says w) in fits.1

not_ran : (job : CoreJob) (s : State) (w n t v a e : ℕ) → Parts job s → s.task w ≡ Started n t → s.node n ≡ Ran v a e → ⊥
not_ran job s w n t v a e parts task ran = let taken = started_is_taken job s w n t parts task in absurd (cc)

not_kept : (job : CoreJob) (s : State) (w n t v a : ℕ) → Parts job s → s.task w ≡ Started n t → s.task v ≡ Kept n a → ⊥
not_kept job s w n t v a parts task kept =
    let same = same_worker job s v w n parts (rw kept refl) (rw task refl) in
    let e : Started n t ≡ Kept n a = sym task ∙ (ap s.task (sym same) ∙ kept) in absurd (cc)

not_ended : (job : CoreJob) (s : State) (w n t v a e : ℕ) → Parts job s → s.task w ≡ Started n t → s.task v ≡ Ended n a e → ⊥
not_ended job s w n t v a e parts task ended =
    let same = same_worker job s v w n parts (rw ended refl) (rw task refl) in
    let e : Started n t ≡ Ended n a e = sym task ∙ (ap s.task (sym same) ∙ ended) in absurd (cc)

no_place : (o : Maybe Place) → ((place : Place) → o ≡ Some place → ⊥) → o ≡ None
no_place None h = refl
no_place (Some place) h = absurd (h place refl)

pub true_is_false : (b : Bool) → b ≡ true → b ≡ false → ⊥
true_is_false b e f = cc

-- a call that is not served, and is not taken by a hold that has published, is not in the book
pub not_in_book : (job : CoreJob) (s : State) (w n t leaf : ℕ) → Parts job s → s.task w ≡ Started n t → job.plan.kind n ≡ Some (LeafNode leaf) → IsCall job leaf
    → ((receipt : Receipt) → s.call w ≢ Got receipt) → ((receipt : Receipt) → s.status w ≢ Served receipt) → (s.status w ≡ Executing → is_published s.hold ≡ false)
    → place_of s.book leaf ≡ None
not_in_book job s w n t leaf parts task kind call not_got not_served early = no_place (place_of s.book leaf) (λ place at.
    elim (parts.members.only n leaf kind call place at) [
      | inl h ↦ not_ran job s w n t place.entry.worker h.0 h.1 parts task h.2
      | inr h ↦ elim h [
        | inl h ↦ not_kept job s w n t place.entry.worker h.0 parts task h.1
        | inr h ↦ elim h [
          | inl h ↦ not_ended job s w n t place.entry.worker h.0 h.1 parts task h.2
          | inr h ↦
              let same = same_worker job s place.entry.worker w n parts (rw h.1 refl) (rw task refl) in elim h.2 [
                | inl h ↦ not_got h.0 (ap s.call (sym same) ∙ h.1)
                | inr h ↦ elim h [
                  | inl h ↦ not_served h.0 (ap s.status (sym same) ∙ h.1)
                  | inr h ↦ true_is_false (is_published s.hold) h.1 (early (ap s.status (sym same) ∙ h.0))
                ]
              ]
        ]
      ]
    ])
