use Rattle.core_model.proofs.ReportLemmas.OneReport.{one_report}
use Rattle.core_model.proofs.laws.report.report_is_one.Goals as goal

pub returns : goal.returns
returns c job leaf_total state a b h g = one_report job state leaf_total a b h g
