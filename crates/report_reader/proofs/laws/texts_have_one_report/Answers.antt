use Rattle.report_reader.proofs.OneReport.{one_report}
use Rattle.report_reader.proofs.laws.texts_have_one_report.Goals as goal

pub returns : goal.returns
returns c job text report report' is_job is is' = one_report job is_job text report report' is is'
