-- A turn keeps the invariant of the state behind the lock, and the report of its core is that of a run of the job.
use Rattle.std.proofs.Common.{ℕ, ◌≡◌, ◌∙◌, ap, subst, sym, Bool, false, Option, Result, Ok, Err, IfOk}
use Rattle.sp_order.specs.Jobs.{JobValue, job_tree}
use Rattle.sp_order.specs.Precedence.{Tree, leaves}
use Rattle.batch_history.specs.declared.report.Report.{Report}
use Rattle.core_model.specs.declared.event.Event.{Event}
use Rattle.core_model.specs.State.{CoreState, CoreJob, core_job, opening_core}
use Rattle.core_model.specs.Runs.{IsReached, IsStep}
use Rattle.core_model.specs.Reports.{IsRunFrom, IsRunReport, IsRunShape}
use Rattle.batcher_core.specs.declared.turn.Turn.TheVariants.{Moved}
use Rattle.batcher_core.specs.Cores.{CoreView, job_in, state_in, IsTurnResult}
use Rattle.locked_run.specs.Runs.{IsCoreOf, IsRunOf}

-- the model's job of a core of this job
pub job_of_core : (value : JobValue) (count : ℕ) (core : CoreView) → IsCoreOf value count core → job_in core ≡ core_job value count
job_of_core value count core is = ap (λ (job : JobValue). core_job job core.workers) is.job_is ∙ ap (core_job value) is.workers

-- a turn with an event leads to a reached state
pub run_moved : (value : JobValue) (count : ℕ) (old new : CoreView) (failed : Bool) (w : ℕ) → IsRunOf value count (record { core = old; failed = failed })
    → (new.job ≡ old.job) × (new.workers ≡ old.workers) → IsTurnResult Moved (job_in old) (state_in old) w (state_in new) → new.spent ≡ false
    → ((job : CoreJob) (a b : CoreState) (worker : ℕ) (event : Event) → IsReached job a → IsStep job a worker event b → IsReached job b)
    → IsRunOf value count (record { core = new; failed = failed })
run_moved value count old new failed w run same moved unspent leads = record {
  of_job = record { job_is = same.0 ∙ run.of_job.job_is; workers = same.1 ∙ run.of_job.workers; shape = run.of_job.shape };
  whole = λ _. unspent;
  reached = λ ok.
      let step = subst (λ (job : CoreJob). IsTurnResult Moved job (state_in old) w (state_in new)) (job_of_core value count old run.of_job) moved in
      leads (core_job value count) (state_in old) (state_in new) w step.0 (run.reached ok) step.2;
}

-- the report of a run from a reached state is that of a run of the job
pub run_reported : {E : Type 0} (made : Result Report E) (value : JobValue) (count : ℕ) (core : CoreView) → IsCoreOf value count core
    → IsReached (core_job value count) (state_in core) → IfOk made (IsRunFrom (job_in core) (leaves (job_tree core.job)) (state_in core))
    → ((job : CoreJob) (leaf_total : ℕ) (state : CoreState) (report : Report) → IsReached job state → IsRunFrom job leaf_total state report → IsRunFrom job leaf_total opening_core report)
    → IfOk made (IsRunReport value count)
run_reported (Ok report) value count core is reached run goes_on =
    subst (λ (shape : Option Tree). IsRunShape shape value (core_job value count) report) (sym is.shape)
    (goes_on (core_job value count) (leaves (job_tree value)) (state_in core) report reached
    (subst (λ (job : CoreJob). IsRunFrom job (leaves (job_tree value)) (state_in core) report) (job_of_core value count core is)
    (subst (λ (job : JobValue). IsRunFrom (job_in core) (leaves (job_tree job)) (state_in core) report) is.job_is run)))
run_reported (Err e) value count core is reached run goes_on = tt
