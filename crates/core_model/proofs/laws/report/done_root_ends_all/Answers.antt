use Rattle.core_model.proofs.ReportLemmas.RootDone.{each_done, each_idle, each_free, no_hold}
use Rattle.core_model.proofs.laws.report.done_root_ends_all.Goals as goal

pub returns : goal.returns
returns c job tree state plan parts done =
    let laws = c.plan_has_sides.ensures job.plan tree plan in
    (each_done job state laws parts done, each_idle job state laws parts done, each_free job state laws parts done, no_hold job state laws parts done)
