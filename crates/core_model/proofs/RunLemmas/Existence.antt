-- Each event whose needs are met happens, so each turn makes a state, and each schedule drives a job to one.
use Rattle.std.proofs.Common.{ℕ, zero, suc, ◌≡◌, ◌≢◌, ◌<◌, ◌+◌, ◌%◌, Option, Some, None, List, [], ◌∷◌, ◌++◌, arith, refl, inl, inr}
use Rattle.std.specs.List.{AllByRecursion}
use Rattle.std.proofs.lemmas.Bool.{cases_Bool}
use Rattle.std.proofs.Math.Nat.{mod-lt}
use Rattle.core_model.proofs.Words.{Tree, IsPlan, IsPlanOf, Event, Claim, Start, OpenParRight, OpenParLeft, OpenSeqLeft, OpenSeqRight, Post, Win, Take, Publish, Answer, Release, Leave, Keep, End, FinishLeaf, FinishSeq, FinishPar, ArriveFirst, ArriveSecond, CoreJob, State, CoreState, is_done}
use Rattle.core_model.specs.Choice.{choice}
use Rattle.core_model.specs.Events.{Needs, Does, Happens, made, published}
use Rattle.core_model.specs.Invariant.{Invariant}
use Rattle.core_model.specs.LeafSources.{HasSources}
use Rattle.core_model.specs.Lists.{ready_after}
use Rattle.core_model.specs.Runs.{IsStep, IsTurnOf, IsTurn, Drives, over, by_schedule, by_robin}
use Rattle.core_model.specs.Serving.{served}
use Rattle.core_model.proofs.Inductive.Parts.{InductiveParts}
use Rattle.core_model.proofs.Inductive.FromParts.{parts_carried, event_keeps_all}
use Rattle.core_model.proofs.BatchLemmas.Existence.{batch_exists}
use Rattle.core_model.proofs.ChoiceLemmas.Choices.{choice_needs}
use Rattle.core_model.proofs.RunLemmas.Rounds.{turns_left, turns_fewer}

-- an event whose needs are met makes a state
does_some : (job : CoreJob) (s : State) (w : ℕ) (event : Event) → HasSources job → InductiveParts job s → Needs job s w event → (new : State) × Does job s w event new
does_some job s w (Claim n) sources h needs = (made s w (Claim n), refl)
does_some job s w (Start n) sources h needs = (made s w (Start n), refl)
does_some job s w (OpenParRight p l r) sources h needs = (made s w (OpenParRight p l r), refl)
does_some job s w (OpenParLeft p l r) sources h needs = (made s w (OpenParLeft p l r), refl)
does_some job s w (OpenSeqLeft p l r) sources h needs = (made s w (OpenSeqLeft p l r), refl)
does_some job s w (OpenSeqRight p l r) sources h needs = (made s w (OpenSeqRight p l r), refl)
does_some job s w (Post n t) sources h needs = (made s w (Post n t), refl)
does_some job s w Win sources h needs = (made s w Win, refl)
does_some job s w (Take u) sources h needs = (made s w (Take u), refl)
does_some job s w (Answer u r) sources h needs = (made s w (Answer u r), refl)
does_some job s w Release sources h needs = (made s w Release, refl)
does_some job s w (Leave r) sources h needs = (made s w (Leave r), refl)
does_some job s w (Keep n t v) sources h needs = (made s w (Keep n t v), refl)
does_some job s w (End n t) sources h needs = (made s w (End n t), refl)
does_some job s w (FinishLeaf n t e) sources h needs = (made s w (FinishLeaf n t e), refl)
does_some job s w (FinishSeq p l r) sources h needs = (made s w (FinishSeq p l r), refl)
does_some job s w (FinishPar p l r) sources h needs = (made s w (FinishPar p l r), refl)
does_some job s w (ArriveFirst p l r n) sources h needs = (made s w (ArriveFirst p l r n), refl)
does_some job s w (ArriveSecond p l r n) sources h needs = (made s w (ArriveSecond p l r n), refl)
does_some job s w Publish sources h needs =
    let batch = batch_exists job s w sources h needs in
    (record s { book = s.book ++ batch.0 ∷ []; objects = served s.objects batch.0; hold = published s.hold }, (batch.0, batch.1, refl))

pub happens_some : (job : CoreJob) (s : State) (w : ℕ) (event : Event) → HasSources job → InductiveParts job s → w < job.workers → Needs job s w event
    → (new : State) × Happens job s w event new
happens_some job s w event sources h among needs =
    let new = does_some job s w event sources h needs in
    (new.0, record { worker_in = among; needs = needs; does = new.1 })

module _ (job : CoreJob) (laws : IsPlan job.plan) (sources : HasSources job) where
  -- the event that a turn chooses makes a state with its lists
  pub step_some : (s : CoreState) (w : ℕ) (event : Event) → w < job.workers → Invariant job s → choice job s w ≡ Some event
      → (new : CoreState) × IsStep job s w event new
  step_some s w event among inv chosen =
      let parts = parts_carried job s.state inv.parts in
      let new = happens_some job s.state w event sources parts among (choice_needs job s w event laws sources among parts inv.lists chosen) in
      (record { state = new.0; ready = ready_after w event s.ready }, record { happens = new.1; lists = refl })

  -- and so does that of a turn that makes one
  pub chosen_step : (s : CoreState) (w : ℕ) (o : Option Event) → w < job.workers → Invariant job s → choice job s w ≡ o → choice job s w ≢ None
      → (event : Event) × (choice job s w ≡ Some event) × (new : CoreState) × IsStep job s w event new
  chosen_step s w None among inv none some = absurd (some none)
  chosen_step s w (Some event) among inv chosen some =
      let new = step_some s w event among inv chosen in
      (event, chosen, new.0, new.1)

  turn_of_some : (s : CoreState) (w : ℕ) (o : Option Event) → w < job.workers → Invariant job s → choice job s w ≡ o
      → (new : CoreState) × IsTurnOf job s w o new × Invariant job new
  turn_of_some s w None among inv none = (s, refl, inv)
  turn_of_some s w (Some event) among inv chosen =
      let new = step_some s w event among inv chosen in
      (new.0, new.1, event_keeps_all job s new.0 w event laws inv new.1)

  -- so each turn makes a state, which has the invariant
  turn_some : (s : CoreState) (w : ℕ) → w < job.workers → Invariant job s → (new : CoreState) × IsTurn job s w new × Invariant job new
  turn_some s w among inv = turn_of_some s w (choice job s w) among inv refl

  module _ (tree : Tree) (plan : IsPlanOf job.plan tree) where
    -- round robin, with fewer turns left than this number
    robin_drives : (most : ℕ) (s : CoreState) (robin : ℕ) → robin < job.workers → Invariant job s → turns_left job s robin < most
        → (last : CoreState) × Drives job s [] robin last
    robin_drives zero s robin below inv few = absurd (omega (arith, few))
    robin_drives (suc most) s robin below inv few = elim (cases_Bool (is_done (s.state.node 0))) [
      | inl done ↦ (s, over done)
      | inr going ↦ (
          let next = turn_some s robin below inv in
          let fewer = turns_fewer job tree s next.0 robin laws sources plan (parts_carried job s.state inv.parts) inv.lists below going next.1 in
          let rest = robin_drives most next.0 ((robin + 1) % job.workers) (mod-lt (robin + 1) (omega (arith, below))) next.2 (omega (arith, few, fewer)) in
          (rest.0, by_robin going next.1 rest.1)
          )
    ]

    -- by the workers of a schedule, and then round robin
    pub schedule_drives : (schedule : List ℕ) (s : CoreState) → 0 < job.workers → AllByRecursion (λ w. w < job.workers) schedule → Invariant job s
        → (last : CoreState) × Drives job s schedule 0 last
    schedule_drives [] s some below inv = robin_drives (suc (turns_left job s 0)) s 0 some inv (omega arith)
    schedule_drives (w ∷ schedule) s some below inv = elim (cases_Bool (is_done (s.state.node 0))) [
      | inl done ↦ (s, over done)
      | inr going ↦ (
          let next = turn_some s w below.0 inv in
          let rest = schedule_drives schedule next.0 some below.1 next.2 in
          (rest.0, by_schedule going next.1 rest.1)
          )
    ]
