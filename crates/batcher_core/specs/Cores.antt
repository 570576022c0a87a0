-- What callers see of a core: its job and state, the work that is due, whether it is over, and the results of turns.
use Rattle.core_state.specs.Abstraction.{core_state_of, state_of}
use Rattle.core_model.specs.Choice.{choice}
use Rattle.core_model.specs.Runs.{IsStep}
use Rattle.core_model.specs.State.{CoreJob, CoreState, core_job, core_job_with}
use Rattle.core_model.specs.Tasks.{is_done}
use Rattle.core_state.specs.WorkDue.{work_due}
use Rattle.core_model.specs.declared.event.Event.{Event}
use Rattle.core_state.specs.declared.state.State.{State as StoredState}
use Rattle.batcher_core.specs.declared.turn.Turn.{Turn}
use Rattle.batcher_core.specs.declared.turn.Turn.TheVariants.{Idle, Moved, Spin}
use Rattle.sp_order.specs.Jobs.{JobValue}
use Rattle.std.specs.Prelude.{Bool, None, Option, Some, not, ℕ, ◌&&◌, ◌≡◌}

-- what contracts see of a core
pub record CoreView : Type 0 where
  pub job : JobValue
  pub workers : ℕ
  pub table : StoredState
  -- an allocation failed in a turn
  pub spent : Bool

-- the job of the model, where the leaves of work compute `work`
abbrev pub job_in_with : (ℕ → ℕ) → CoreView → CoreJob
job_in_with work c = core_job_with work c.job c.workers

-- the same where they spin
abbrev pub job_in : CoreView → CoreJob
job_in c = core_job c.job c.workers

abbrev pub state_in : CoreView → CoreState
state_in c = core_state_of c.table

-- the number of the work that worker `w` has due
abbrev pub due_in : CoreView → ℕ → Option ℕ
due_in c w = work_due (job_in c) (state_of c.table).book ((state_of c.table).task w) ((state_of c.table).call w)

-- the core is not spent, and the root is done
abbrev pub is_over_in : CoreView → Bool
is_over_in c = not c.spent && is_done ((state_of c.table).node 0)

abbrev pub moved_if : Option Event → Turn
moved_if None = Idle
moved_if (Some event) = Moved

-- the result of a turn, from the work that is due, the work that was passed in, and the choice
abbrev pub turn_answer : Option ℕ → Option ℕ → Option Event → Turn
turn_answer None spun chosen = moved_if chosen
turn_answer (Some steps) None chosen = Spin steps
turn_answer (Some steps) (Some spun) chosen = moved_if chosen

-- The effect of a turn with this result: `Moved` means that the chosen event happened. Otherwise nothing changed, and
-- `Idle` also means that no event of this worker can happen.
abbrev pub IsTurnResult : Turn → CoreJob → CoreState → ℕ → CoreState → Type 0
IsTurnResult Moved job old w new = (event : Event) × (choice job old w ≡ Some event) × IsStep job old w event new
IsTurnResult (Spin steps) job old w new = new ≡ old
IsTurnResult Idle job old w new = (new ≡ old) × ((event : Event) (next : CoreState) → IsStep job old w event next → ⊥)
