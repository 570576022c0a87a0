-- The choice of a turn is an event whose needs are met, and there is none exactly where no event can happen.
use Rattle.std.proofs.Common.{ℕ, ◌≡◌, ◌≢◌, ◌<◌, ◌==◌, ◌⊎◌, Option, Some, None, List, arith, refl, inl, inr, ◌∙◌, eqb-true}
use Rattle.std.proofs.lemmas.Bool.Decides.{nat_tests}
use Rattle.core_model.proofs.Words.{IsPlan, Task, Idle, Status, Free, Pending, Executing, Served, Event, CoreJob, Hold, State, CoreState}
use Rattle.core_model.specs.LeafSources.{HasSources}
use Rattle.core_model.specs.Invariant.ReadyLists.{ReadyListsInvariant}
use Rattle.core_model.specs.Events.{Needs}
use Rattle.core_model.specs.Invariant.Statuses.{is_taken_by}
use Rattle.core_model.proofs.Inductive.Parts.{InductiveParts}
use Rattle.core_model.specs.Choice.{choice_holding, choice_pending, choice_free, choice_by, choice_under, choice}
use Rattle.core_model.proofs.ChoiceLemmas.Search.{if_both}
use Rattle.core_model.proofs.ChoiceLemmas.Tasks.{Allows, gives_allows, task_gives}
use Rattle.core_model.proofs.ChoiceLemmas.Gate.{holding_gives}
use Rattle.core_model.proofs.ChoiceLemmas.Idle.{HoldsNot, none_trapped, idle_allows}
use Rattle.core_model.proofs.InvariantLemmas.StatusRows.{call_out, executing_taken}

pub is_idle : (t : Task) → (t ≡ Idle) ⊎ (t ≢ Idle)
is_idle t = grind arith

module _ (job : CoreJob) (s : State) (w : ℕ) (ready : ℕ → List ℕ) (laws : IsPlan job.plan) (sources : HasSources job) (among : w < job.workers) (h : InductiveParts job s) (lists : ReadyListsInvariant job.workers s.node ready) where
  free_allows : (t : Task) → HoldsNot s w → s.status w ≡ Free → s.task w ≡ t → Allows job s w (choice_free job (record { state = s; ready = ready }) w t)
  free_allows t away free mine = elim (is_idle t) [
    | inl idle ↦ rw idle (idle_allows job s w ready lists free (mine ∙ idle) among away)
    | inr busy ↦ gives_allows job s w (choice_free job (record { state = s; ready = ready }) w t) (task_gives job s w laws sources h free ready t mine busy (rw mine at (h.tasks.fits w)))
  ]

  pending_allows : (o : Option Hold) → HoldsNot s w → s.status w ≡ Pending → s.hold ≡ o → Allows job s w (choice_pending o)
  pending_allows None away pending held =
      let busy : s.status w ≢ Free = grind arith in
      (busy, call_out job s.book (s.task w) (s.status w) (s.call w) (is_taken_by s.hold w) busy (h.statuses w), held)
  pending_allows (Some hd) away pending held = none_trapped job s w away (grind arith) (grind arith) (λ receipt. grind arith)

  status_allows : (st : Status) → HoldsNot s w → s.status w ≡ st → Allows job s w (choice_by job (record { state = s; ready = ready }) w st)
  status_allows Free away is = free_allows (s.task w) away is refl
  status_allows Pending away is = pending_allows s.hold away is refl
  status_allows Executing away is =
      let taken = executing_taken job s.book (s.task w) (s.status w) (s.call w) (is_taken_by s.hold w) is (h.statuses w) in
      none_trapped job s w away (grind arith) (λ free. grind arith) (λ receipt. grind arith)
  status_allows (Served receipt) away is = (is, away)

  hold_allows : (o : Option Hold) → s.hold ≡ o → Allows job s w (choice_under job (record { state = s; ready = ready }) w o)
  hold_allows None held = status_allows (s.status w) (λ hd e. grind arith) refl
  hold_allows (Some hd) held =
      if_both (Allows job s w) (hd.worker == w) (choice_holding job s hd) (choice_by job (record { state = s; ready = ready }) w (s.status w))
      (λ e. gives_allows job s w (choice_holding job s hd) (holding_gives job s w h hd (held, eqb-true hd.worker w e)))
      (λ e. status_allows (s.status w) (λ other f. grind (arith, nat_tests)) refl)

-- the choice of a worker's turn has what it needs; where there is none, no event of the worker can happen
pub choice_allows : (job : CoreJob) (s : CoreState) (w : ℕ) → IsPlan job.plan → HasSources job → w < job.workers → InductiveParts job s.state → ReadyListsInvariant job.workers s.state.node s.ready
    → Allows job s.state w (choice job s w)
choice_allows job s w laws sources among h lists = hold_allows job s.state w s.ready laws sources among h lists s.state.hold refl

some_needs : (job : CoreJob) (s : State) (w : ℕ) (event : Event) (o : Option Event) → o ≡ Some event → Allows job s w o → Needs job s w event
some_needs job s w event o e allows = rw e at allows

none_refuses : (job : CoreJob) (s : State) (w : ℕ) (o : Option Event) → o ≡ None → Allows job s w o → (event : Event) → Needs job s w event → ⊥
none_refuses job s w o e allows = rw e at allows

pub choice_needs : (job : CoreJob) (s : CoreState) (w : ℕ) (event : Event) → IsPlan job.plan → HasSources job → w < job.workers → InductiveParts job s.state → ReadyListsInvariant job.workers s.state.node s.ready
    → choice job s w ≡ Some event → Needs job s.state w event
choice_needs job s w event laws sources among h lists chosen = some_needs job s.state w event (choice job s w) chosen (choice_allows job s w laws sources among h lists)

pub none_has_no_event : (job : CoreJob) (s : CoreState) (w : ℕ) → IsPlan job.plan → HasSources job → w < job.workers → InductiveParts job s.state → ReadyListsInvariant job.workers s.state.node s.ready
    → choice job s w ≡ None → (event : Event) → Needs job s.state w event → ⊥
none_has_no_event job s w laws sources among h lists none = none_refuses job s.state w (choice job s w) none (choice_allows job s w laws sources among h lists)
