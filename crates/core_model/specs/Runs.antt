-- Reachable states, the runs that reach them, and the run of a schedule.
use Rattle.core_model.specs.Choice.{choice}
use Rattle.core_model.specs.Events.{Happens}
use Rattle.core_model.specs.Lists.{ready_after}
use Rattle.core_model.specs.State.{CoreJob, CoreState, opening_core}
use Rattle.core_model.specs.Tasks.{is_done}
use Rattle.core_model.specs.declared.event.Event.{Event}
use Rattle.std.specs.Prelude.{List, None, Option, Some, [], false, true, ℕ, ◌%◌, ◌++◌, ◌+◌, ◌∷◌, ◌≡◌}

-- the event takes the old state with its lists to the new one
pub record IsStep (job : CoreJob) (old : CoreState) (worker : ℕ) (event : Event) (new : CoreState) : Type 0 where
  pub happens : Happens job old.state worker event new.state
  pub lists : new.ready ≡ ready_after worker event old.ready

-- a worker and its event
pub record Step : Type 0 where
  pub worker : ℕ
  pub event : Event

-- these steps, in order, take the first state to the last
abbrev pub ReachesFrom : CoreJob → CoreState → List Step → CoreState → Type 0
ReachesFrom job first [] last = last ≡ first
ReachesFrom job first (step ∷ steps) last =
    (next : CoreState) × IsStep job first step.worker step.event next × ReachesFrom job next steps last

-- these steps lead from the opening state to `s`
abbrev pub Reaches : CoreJob → List Step → CoreState → Type 0
Reaches job steps s = ReachesFrom job opening_core steps s

-- some run reaches this state
abbrev pub IsReached : CoreJob → CoreState → Type 0
IsReached job s = (steps : List Step) × Reaches job steps s

-- the effect of a turn with this choice: the event happens, or nothing changes
abbrev pub IsTurnOf : CoreJob → CoreState → ℕ → Option Event → CoreState → Type 0
IsTurnOf job old worker None new = new ≡ old
IsTurnOf job old worker (Some event) new = IsStep job old worker event new

abbrev pub IsTurn : CoreJob → CoreState → ℕ → CoreState → Type 0
IsTurn job old worker new = IsTurnOf job old worker (choice job old worker) new

-- a run by turns: each step is the event that its worker's turn chooses
abbrev pub TurnsReach : CoreJob → CoreState → List Step → CoreState → Type 0
TurnsReach job first [] last = last ≡ first
TurnsReach job first (step ∷ steps) last =
    (next : CoreState) × (choice job first step.worker ≡ Some step.event) × IsStep job first step.worker step.event next
    × TurnsReach job next steps last

-- A drive takes turns by the workers of a schedule, and then round robin from `robin` on. It ends at the first state
-- whose root is done.
pub data Drives (job : CoreJob) : CoreState → List ℕ → ℕ → CoreState → Type 0 where
  over : {s : CoreState} {schedule : List ℕ} {robin : ℕ} → is_done (s.state.node 0) ≡ true → Drives job s schedule robin s
  by_schedule : {s next last : CoreState} {worker robin : ℕ} {schedule : List ℕ} → is_done (s.state.node 0) ≡ false
      → IsTurn job s worker next → Drives job next schedule robin last → Drives job s (worker ∷ schedule) robin last
  by_robin : {s next last : CoreState} {robin : ℕ} → is_done (s.state.node 0) ≡ false
      → IsTurn job s robin next → Drives job next [] ((robin + 1) % job.workers) last → Drives job s [] robin last

-- the steps of one turn: none if it chooses no event
abbrev pub step_of : ℕ → Option Event → List Step
step_of worker None = []
step_of worker (Some event) = record { worker = worker; event = event } ∷ []

-- the steps of a drive, in order
abbrev pub steps_of : (job : CoreJob) (first last : CoreState) (schedule : List ℕ) (robin : ℕ)
    → Drives job first schedule robin last → List Step
steps_of job first last schedule robin (over done) = []
steps_of job first last schedule robin (by_schedule {next = next} {worker = worker} {robin = on} {schedule = rest} going turn drives) =
    step_of worker (choice job first worker) ++ steps_of job next last rest on drives
steps_of job first last schedule robin (by_robin {next = next} going turn drives) =
    step_of robin (choice job first robin) ++ steps_of job next last [] ((robin + 1) % job.workers) drives

-- the schedule, and then round robin from worker 0 on, drives the job from its opening state to `last`
abbrev pub driven : CoreJob → List ℕ → CoreState → Type 0
driven job schedule last = Drives job opening_core schedule 0 last
