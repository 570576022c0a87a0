use Rattle.sp_order.proofs.BuilderLemmas.Preorders.{plan_of_tree}
use Rattle.sp_order.proofs.laws.plan_stands_for_tree.Goals as goal

pub returns : goal.returns
returns c = plan_of_tree
