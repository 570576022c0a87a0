use Rattle.sp_order.proofs.PlanLemmas.BySeries.{before_by_series}
use Rattle.sp_order.proofs.laws.before_is_by_series.Goals as goal

pub returns : goal.returns
returns c = before_by_series
