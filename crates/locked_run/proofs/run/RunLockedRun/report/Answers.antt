use Rattle.locked_run.proofs.RunKept.{run_reported}
use Rattle.locked_run.proofs.run.RunLockedRun.report.Goals as goal

pub returns-clause-run : goal.returns-clause-run
returns-clause-run g c =
    run_reported c.drive.result g.J.JobBrand.job g.J.JobBrand.workers c.self.inside.core c.self.invariant.of_job (c.self.invariant.reached c.if-failed.false) c.drive.ensures.run
    c.run_goes_on_from_reached.ensures
