use Rattle.sp_order.specs.Jobs.{job_tree}
use Rattle.sp_order.specs.Preorder.{nodes_of}
use Rattle.core_model.specs.State.{core_job_with}
use Rattle.sp_order.proofs.PlanLemmas.Laws.{has_root}
use Rattle.core_model.proofs.InvariantLemmas.Reached.{reached_parts}
use Rattle.core_model.proofs.WaitLemmas.From.{one_of_two}
use Rattle.core_model.proofs.laws.wait.pending_call_is_in_next_two.Goals as goal

pub returns : goal.returns
returns c work value workers worker first last receipt some reached pending stays served =
    let stands = c.plan_stands_for_tree.ensures (job_tree value) in
    let laws = c.plan_has_sides.ensures (nodes_of (job_tree value)) (job_tree value) stands in
    let job = core_job_with work value workers in
    one_of_two job worker first.state last receipt laws (reached_parts job laws (has_root (nodes_of (job_tree value)) (job_tree value) stands) some first reached) pending stays served
