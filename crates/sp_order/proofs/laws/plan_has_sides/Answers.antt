use Rattle.sp_order.proofs.PlanLemmas.Laws.{plan_laws}
use Rattle.sp_order.proofs.laws.plan_has_sides.Goals as goal

pub returns : goal.returns
returns c = plan_laws
