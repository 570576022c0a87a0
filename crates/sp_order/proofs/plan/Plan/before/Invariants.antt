use Rattle.sp_order.specs.Preorder.{nodes_of}
use Rattle.sp_order.proofs.PlanLemmas.Climbs.{Climbs}
use Rattle.sp_order.proofs.plan.Plan.before.Given as goal

abbrev pub invariant-loop-node : goal.invariant-loop-node
invariant-loop-node l = Climbs (nodes_of l.self) l.first ((nodes_of l.self).node_of l.v) l.node

abbrev pub decreases-loop-node : goal.decreases-loop-node
decreases-loop-node l = l.node
