use Rattle.std.proofs.Common.{ap, sym, ◌∙◌}
use Rattle.sp_order.specs.Jobs.{job_tree}
use Rattle.sp_order.specs.Preorder.{nodes_of}
use Rattle.core_model.specs.Words.{parent_of}
use Rattle.core_model.proofs.InvariantLemmas.InRange.{parent_in}
use Rattle.core_model.proofs.setting.Setting.next_whole.Goals as goal

pub kind-requires : goal.kind-requires
kind-requires c =
    let tree = job_tree c.args.self.now.job in
    let laws = c.plan_has_sides.ensures (nodes_of tree) tree (c.plan_stands_for_tree.ensures tree) in
    parent_in (nodes_of tree) laws c.in-OpenSecond.parent c.args.node (ap parent_of (sym c.after.ensures ∙ c.in-OpenSecond.is))

pub kind-requires-in-FinishParent : goal.kind-requires-in-FinishParent
kind-requires-in-FinishParent c =
    let tree = job_tree c.args.self.now.job in
    let laws = c.plan_has_sides.ensures (nodes_of tree) tree (c.plan_stands_for_tree.ensures tree) in
    parent_in (nodes_of tree) laws c.in-FinishParent.parent c.args.node (ap parent_of (sym c.after.ensures ∙ c.in-FinishParent.is))

pub kind-requires-in-Arrive : goal.kind-requires-in-Arrive
kind-requires-in-Arrive c =
    let tree = job_tree c.args.self.now.job in
    let laws = c.plan_has_sides.ensures (nodes_of tree) tree (c.plan_stands_for_tree.ensures tree) in
    parent_in (nodes_of tree) laws c.in-Arrive.parent c.args.node (ap parent_of (sym c.after.ensures ∙ c.in-Arrive.is))
