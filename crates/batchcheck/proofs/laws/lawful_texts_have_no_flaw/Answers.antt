use Rattle.std.proofs.Common.{None, subst}
use Rattle.report_check.specs.Flaws.{IsFlawOf}
use Rattle.report_check.specs.SmallJobs.{IsSmallJob}
use Rattle.batchcheck.proofs.laws.lawful_texts_have_no_flaw.Goals as goal

pub returns : goal.returns
returns c bytes text job is has =
    let small : IsSmallJob job = record {
      is_job = c.accepted_jobs_are_jobs.ensures bytes job is;
      arguments = c.accepted_jobs_have_small_arguments.ensures.arguments bytes job is;
    } in
    subst (λ t. IsFlawOf job t None) has.written (c.lawful_reports_have_no_flaw.ensures.none job has.report small has.some has.few has.lawful)
