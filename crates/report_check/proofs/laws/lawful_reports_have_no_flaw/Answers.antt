use Rattle.std.proofs.Common.{◌≤◌, ◌^◌, length, refl, arith}
use Rattle.report_check.proofs.RawReports.{raw_of_lawful}
use Rattle.report_check.proofs.laws.lawful_reports_have_no_flaw.Goals as goal

pub returns-clause-raw : goal.returns-clause-raw
returns-clause-raw c job report small some few lawful =
    let most : length job.acts ≤ 2 ^ 32 = omega (arith, small.is_job.most) in
    raw_of_lawful job report small few lawful (c.replies_are_small.ensures.report job report.workers report lawful most small.arguments) (c.lawful_reports_name_their_objects.ensures job report.workers report small.is_job lawful) some

pub returns-clause-none : goal.returns-clause-none
returns-clause-none c job report small some few lawful =
    let most : length job.acts ≤ 2 ^ 32 = omega (arith, small.is_job.most) in
    (report, record { raw = raw_of_lawful job report small few lawful (c.replies_are_small.ensures.report job report.workers report lawful most small.arguments) (c.lawful_reports_name_their_objects.ensures job report.workers report small.is_job lawful) some; written = refl }, lawful)
