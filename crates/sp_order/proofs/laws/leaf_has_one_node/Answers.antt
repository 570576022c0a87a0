use Rattle.std.proofs.Common.{arith}
use Rattle.sp_order.specs.declared.node.Move.TheVariants.{Root}
use Rattle.sp_order.proofs.PlanLemmas.Laws.{plan_laws}
use Rattle.sp_order.proofs.PlanLemmas.Descents.{leaf_at}
use Rattle.sp_order.proofs.laws.leaf_has_one_node.Goals as goal

pub returns : goal.returns
returns c plan tree h leaf n low = (
  (plan_laws plan tree h).one_node n leaf,
  λ e. rw e ((leaf_at plan tree 0 0 Root h.stands leaf (omega arith) (omega arith)).0),
)
