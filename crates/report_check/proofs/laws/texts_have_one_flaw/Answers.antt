use Rattle.report_check.proofs.OneFlaw.{one_flaw}
use Rattle.report_check.proofs.laws.texts_have_one_flaw.Goals as goal

pub returns : goal.returns
returns c job text flaw other is_job is is' = one_flaw job text (λ report report'. c.texts_have_one_report.ensures job text report report' is_job) flaw other is is'
