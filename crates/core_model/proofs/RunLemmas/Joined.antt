-- Reports of runs: those that turns drive, and those that continue from a reached state.
use Rattle.std.proofs.Common.{ℕ, Option, None, Some, List, [], ◌∷◌, ◌++◌, subst}
use Rattle.batch_history.specs.declared.report.Report.{Report}
use Rattle.core_model.proofs.Words.{CoreJob, CoreState}
use Rattle.core_model.specs.State.{opening_core}
use Rattle.core_model.specs.Words.{Tree}
use Rattle.sp_order.specs.Jobs.{JobValue}
use Rattle.core_model.specs.Runs.{Step, ReachesFrom, IsReached, steps_of}
use Rattle.core_model.specs.Reports.{IsDrivenFrom, IsDrivenShape, IsRunFrom, IsRunShape}
use Rattle.core_model.proofs.RunLemmas.Facts.{drives_done, drives_lead, turns_reach}

-- one run, and then another from where it leads
pub joined : (job : CoreJob) (first mid last : CoreState) (front back : List Step) → ReachesFrom job first front mid → ReachesFrom job mid back last
    → ReachesFrom job first (front ++ back) last
joined job first mid last [] back same rest = subst (λ (x : CoreState). ReachesFrom job x back last) same rest
joined job first mid last (step ∷ front) back run rest = (run.0, run.1, joined job run.0 mid last front back run.2 rest)

pub driven_from : (job : CoreJob) (leaf_total : ℕ) (first : CoreState) (schedule : List ℕ) (report : Report) → IsDrivenFrom job leaf_total first schedule report
    → IsRunFrom job leaf_total first report
driven_from job leaf_total first schedule report driven = record {
  trace = steps_of job first driven.last schedule 0 driven.drives;
  last = driven.last;
  reaches = turns_reach job first driven.last (steps_of job first driven.last schedule 0 driven.drives) (drives_lead job first driven.last schedule 0 driven.drives);
  over = drives_done job first driven.last schedule 0 driven.drives;
  reports = driven.reports;
}

pub driven_shape : (shape : Option Tree) (job : JobValue) (core : CoreJob) (schedule : List ℕ) (report : Report) → IsDrivenShape shape job core schedule report
    → IsRunShape shape job core report
driven_shape None job core schedule report same = same
driven_shape (Some tree) job core schedule report driven = driven_from _ _ _ schedule report driven

pub goes_on : (job : CoreJob) (leaf_total : ℕ) (first : CoreState) (report : Report) → IsReached job first → IsRunFrom job leaf_total first report
    → IsRunFrom job leaf_total opening_core report
goes_on job leaf_total first report reached run = record {
  trace = reached.0 ++ run.trace;
  last = run.last;
  reaches = joined job opening_core first run.last reached.0 run.trace reached.1 run.reaches;
  over = run.over;
  reports = run.reports;
}
