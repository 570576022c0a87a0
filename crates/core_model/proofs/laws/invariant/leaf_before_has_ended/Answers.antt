use Rattle.std.proofs.Common.{refl}
use Rattle.core_model.proofs.laws.invariant.leaf_before_has_ended.Goals as goal

pub returns : goal.returns
returns c job tree state plan parts u v worker start low low' before starts =
    parts.ticks.in_order (job.plan.node_of u) (job.plan.node_of v) worker start
    (u, (c.leaf_has_one_node.ensures job.plan tree plan u (job.plan.node_of u) low).1 refl)
    (v, (c.leaf_has_one_node.ensures job.plan tree plan v (job.plan.node_of v) low').1 refl)
    ((c.before_is_by_series.ensures job.plan tree plan u v low low').0 before)
    starts
