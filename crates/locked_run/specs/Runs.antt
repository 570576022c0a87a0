-- The state behind the lock: its view in contracts, and what its type keeps.
use Rattle.std.specs.Prelude.{ℕ, ◌≡◌, Bool, Some, false}
use Rattle.sp_order.specs.Jobs.{JobValue, job_tree}
use Rattle.core_model.specs.Runs.{IsReached}
use Rattle.core_model.specs.State.{core_job}
use Rattle.batcher_core.specs.Cores.{CoreView, state_in}

-- the core, and whether memory ran out in some worker
pub record RunView : Type 0 where
  pub core : CoreView
  pub failed : Bool

-- the core is one of this job, which has leaves, and has `count` workers
pub record IsCoreOf (job : JobValue) (count : ℕ) (core : CoreView) : Type 0 where
  pub job_is : core.job ≡ job
  pub workers : core.workers ≡ count
  pub shape : job.shape ≡ Some (job_tree job)

-- The invariant of the type of the state behind the lock. The core is one of the given job, with `count` workers.
-- Unless memory ran out, the core is not spent, and events lead from the opening state to its state.
pub record IsRunOf (job : JobValue) (count : ℕ) (run : RunView) : Type 0 where
  pub of_job : IsCoreOf job count run.core
  pub whole : run.failed ≡ false → run.core.spent ≡ false
  pub reached : run.failed ≡ false → IsReached (core_job job count) (state_in run.core)
