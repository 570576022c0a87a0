use Rattle.std.proofs.Common.{refl}
use Rattle.sp_order.specs.Jobs.{job_tree}
use Rattle.sp_order.specs.Preorder.{nodes_of}
use Rattle.batcher_core.proofs.CodeLemmas.Starting.{root_in, opening_fits, shown_opening}
use Rattle.batcher_core.proofs.scheduler.CoreWith.start.Goals as goal

pub opening-requires-clause-nodes : goal.opening-requires-clause-nodes
opening-requires-clause-nodes g c =
    let tree = job_tree c.in_ok-setting.setting.job in
    let stands = c.plan_stands_for_tree.ensures tree in
    let laws = c.plan_has_sides.ensures (nodes_of tree) tree stands in
    rw c.nodes.ensures.nodes (root_in tree stands laws)

pub invariant_of-result : goal.invariant_of-result
invariant_of-result g c =
    let setting = c.in_ok-setting.setting in
    let tree = job_tree setting.job in
    let stands = c.plan_stands_for_tree.ensures tree in
    let laws = c.plan_has_sides.ensures (nodes_of tree) tree stands in
    let most = rw c.nodes.ensures.nodes at c.nodes.ensures.most in
    let sizes = rw c.nodes.ensures.nodes at c.in_ok-table.ensures.sizes in
    let workers = c.in_ok-setting.ensures.1 in (
      rw workers c.requires.some_workers,
      λ unspent. opening_fits g.B.WorkBrand.work setting.job setting.workers c.in_ok-table.table (rw workers c.requires.some_workers) (rw workers c.requires.few_workers)
          c.nodes.ensures.job c.nodes.ensures.shape stands laws (c.job_has_its_sources.ensures g.B.WorkBrand.work setting.job setting.workers c.nodes.ensures.job) most c.in_ok-table.ensures.shop (rw (← workers) at sizes) c.in_ok-table.ensures.state c.in_ok-table.ensures.lists,
    )

pub returns-clause-opening : goal.returns-clause-opening
returns-clause-opening g c = (shown_opening c.in_ok-table.table c.in_ok-table.ensures.state c.in_ok-table.ensures.lists, refl)
