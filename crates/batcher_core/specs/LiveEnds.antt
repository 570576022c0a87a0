-- The outcome of the live workers' turns in a core where some workers have stopped for good.
use Rattle.batch_history.specs.Lawful.{Lawful}
use Rattle.batcher_core.specs.Cores.{CoreView, job_in, state_in}
use Rattle.batcher_core.specs.declared.stopped.Ended.{Ended}
use Rattle.batcher_core.specs.declared.stopped.Ended.TheVariants.{Over, Stuck}
use Rattle.core_model.specs.Invariant.{Invariant}
use Rattle.core_model.specs.Reports.{IsReportOf}
use Rattle.core_model.specs.State.{CoreState}
use Rattle.core_model.specs.Stopped.{LiveDrive, NoLiveEvent}
use Rattle.core_model.specs.Tasks.{is_done}
use Rattle.sp_order.specs.Jobs.{job_tree}
use Rattle.sp_order.specs.Precedence.{leaves}
use Rattle.std.specs.Prelude.{Bool, false, true, ℕ, ◌≡◌}

-- The outcome of the live workers' turns from worker 0 on. `Over`: the root of the reached state is done, and the
-- report is that state's and is lawful. `Stuck`: the root is not done, no live worker has an event, and the core is
-- returned in this state with its invariant.
abbrev pub IsEndOf : CoreView → (ℕ → Bool) → Ended → Type 0
IsEndOf core live (Over report) =
    (last : CoreState) × LiveDrive (job_in core) live (state_in core) 0 last × (is_done (last.state.node 0) ≡ true)
    × IsReportOf (job_in core) (leaves (job_tree core.job)) last.state report
    × Lawful core.job core.workers report
IsEndOf core live (Stuck left) =
    (left.job ≡ core.job) × (left.workers ≡ core.workers) × (left.spent ≡ false)
    × LiveDrive (job_in core) live (state_in core) 0 (state_in left) × (is_done ((state_in left).state.node 0) ≡ false)
    × NoLiveEvent (job_in core) live (state_in left) × Invariant (job_in core) (state_in left)

abbrev pub IsOver : Ended → Type 0
IsOver (Over report) = Unit {0}
IsOver (Stuck left) = ⊥
