use Rattle.sp_order.specs.Jobs.{job_tree}
use Rattle.sp_order.specs.Preorder.{nodes_of}
use Rattle.core_model.specs.State.{core_job_with}
use Rattle.sp_order.proofs.PlanLemmas.Laws.{has_root}
use Rattle.core_model.proofs.InvariantLemmas.Reached.{reached_invariant}
use Rattle.core_model.proofs.laws.invariant.reached_has_invariant.Goals as goal

pub returns : goal.returns
returns c work job workers state some reached =
    let stands = c.plan_stands_for_tree.ensures (job_tree job) in
    let laws = c.plan_has_sides.ensures (nodes_of (job_tree job)) (job_tree job) stands in
    reached_invariant (core_job_with work job workers) laws (has_root (nodes_of (job_tree job)) (job_tree job) stands) some state reached
