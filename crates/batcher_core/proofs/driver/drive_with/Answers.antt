use Rattle.std.proofs.Common.{rules, ℕ, List, Result, Ok, Err, IfOk}
use Rattle.batch_history.specs.declared.report.Report.{Report}
use Rattle.core_model.specs.State.{CoreJob, CoreState}
use Rattle.core_model.specs.Reports.{IsDrivenFrom, IsRunFrom}
use Rattle.batcher_core.proofs.driver.drive_with.Goals as goal

-- the report of a run by turns is that of a run of the model
run_of_driven : {E : Type 0} (made : Result Report E) (job : CoreJob) (leaf_total : ℕ) (first : CoreState) (schedule : List ℕ)
    → ((report : Report) → IsDrivenFrom job leaf_total first schedule report → IsRunFrom job leaf_total first report)
    → IfOk made (λ report. IsDrivenFrom job leaf_total first schedule report) → IfOk made (IsRunFrom job leaf_total first)
run_of_driven (Ok report) job leaf_total first schedule is_run driven = is_run report driven
run_of_driven (Err e) job leaf_total first schedule is_run driven = tt

pub returns-clause-driven : goal.returns-clause-driven
returns-clause-driven g c = search rules

pub returns-clause-run : goal.returns-clause-run
returns-clause-run g c =
    run_of_driven c.report.result _ _ _ c.args.schedule.now (c.driven_report_is_of_a_run.ensures.from _ _ _ c.args.schedule.now) (returns-clause-driven g c)
