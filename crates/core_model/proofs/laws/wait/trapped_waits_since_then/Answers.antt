use Rattle.sp_order.specs.Jobs.{job_tree}
use Rattle.sp_order.specs.Preorder.{nodes_of}
use Rattle.core_model.specs.State.{core_job_with}
use Rattle.sp_order.proofs.PlanLemmas.Laws.{has_root}
use Rattle.core_model.proofs.InvariantLemmas.Reached.{reached_parts}
use Rattle.core_model.proofs.Inductive.FromParts.{parts_carried}
use Rattle.core_model.proofs.WaitLemmas.Runs.{along_waits}
use Rattle.core_model.proofs.laws.wait.trapped_waits_since_then.Goals as goal

pub returns-clause-kept : goal.returns-clause-kept
returns-clause-kept c job worker first last laws parts = along_waits job worker first last laws (parts_carried job first parts)

pub returns-clause-reached : goal.returns-clause-reached
returns-clause-reached c work value workers worker first last some reached stays =
    let stands = c.plan_stands_for_tree.ensures (job_tree value) in
    let laws = c.plan_has_sides.ensures (nodes_of (job_tree value)) (job_tree value) stands in
    let job = core_job_with work value workers in
    along_waits job worker first.state last laws (reached_parts job laws (has_root (nodes_of (job_tree value)) (job_tree value) stands) some first reached) stays
