-- What a choice owes, and the turns of a worker that is not trapped and has a task: the choice is its next act.
use Rattle.std.proofs.Common.{ℕ, ◌≡◌, ◌≢◌, Option, Some, None, List, refl}
use Rattle.core_model.proofs.Words.{IsPlan, Task, Idle, Free, Event, CoreJob, State, CoreState}
use Rattle.core_model.specs.LeafSources.{HasSources}
use Rattle.core_model.specs.Invariant.Tasks.{TaskFits}
use Rattle.core_model.specs.Events.{Needs}
use Rattle.core_model.specs.Next.{next_act}
use Rattle.core_model.specs.declared.next.Next.{Next}
use Rattle.core_model.specs.Choice.{choice_free, event_if}
use Rattle.core_model.proofs.Inductive.Parts.{InductiveParts}
use Rattle.core_model.proofs.ChoiceLemmas.NextActs.{Acts, task_acts}

-- an event that is chosen has what it needs, and where none is chosen none has
abbrev pub Allows : CoreJob → State → ℕ → Option Event → Type 0
Allows job s w None = (event : Event) → Needs job s w event → ⊥
Allows job s w (Some event) = Needs job s w event

-- an event is chosen, and has what it needs
abbrev pub Gives : CoreJob → State → ℕ → Option Event → Type 0
Gives job s w None = ⊥
Gives job s w (Some event) = Needs job s w event

pub gives_allows : (job : CoreJob) (s : State) (w : ℕ) (o : Option Event) → Gives job s w o → Allows job s w o
gives_allows job s w None h = absurd h
gives_allows job s w (Some event) h = h

-- a worker that is not trapped and has a task chooses the event of its next act
pub choice_is_next : (job : CoreJob) (s : CoreState) (w : ℕ) (t : Task) → t ≢ Idle → choice_free job s w t ≡ event_if job s.state (next_act job t (s.state.call w))
choice_is_next job s w Idle busy = absurd (busy refl)
choice_is_next job s w _ busy = refl

acts_give : (job : CoreJob) (s : State) (w : ℕ) (o : Option Next) → Acts job s w o → Gives job s w (event_if job s o)
acts_give job s w None acts = absurd acts
acts_give job s w (Some act) acts = acts.needs

pub task_gives : (job : CoreJob) (s : State) (w : ℕ) (laws : IsPlan job.plan) (sources : HasSources job) (h : InductiveParts job s) (free : s.status w ≡ Free)
    (ready : ℕ → List ℕ) (t : Task) → s.task w ≡ t → t ≢ Idle → TaskFits job.plan s.node s.mark t
    → Gives job s w (choice_free job (record { state = s; ready = ready }) w t)
task_gives job s w laws sources h free ready t mine busy fits =
    rw (choice_is_next job (record { state = s; ready = ready }) w t busy) (acts_give job s w (next_act job t (s.call w)) (task_acts job s w laws sources h free t mine busy fits))
