use Rattle.core_model.specs.Settings.{job_with}
use Rattle.std.proofs.Common.{Some, refl, arith}
use Rattle.table_rule.specs.Passes.{telling}
use Rattle.table_rule.specs.Views.{with_step}
use Rattle.table_rule.specs.Shows.{room_of}
use Rattle.sp_order.specs.declared.node.Kind.TheVariants.{LeafNode}
use Rattle.core_model.proofs.BookLemmas.LeavesIn.{leaves_in}
use Rattle.core_model.specs.Ranges.{LeafIn}
use Rattle.sp_order.specs.Jobs.{job_tree}
use Rattle.sp_order.specs.Precedence.{leaves}
use Rattle.sp_order.specs.Preorder.{nodes_of}
use Rattle.table_rule.proofs.StepLemmas.Sides.{block_in}
use Rattle.table_rule.proofs.StepLemmas.LookSteps.{looks_at_value}
use Rattle.core_table.proofs.PassLemmas.PassKept.{pass_kept}
use Rattle.core_table.proofs.table.CoreTable.source_value.Goals as goal

pub node_of-requires : goal.node_of-requires
node_of-requires g c =
    let self = c.args.self.now in
    let laws = c.laws_hold.ensures self.setting refl in
    let (n, start, leaf, task, kind, from) = c.source_due-source.ensures in
    let source = c.source_due-source.result in
    let tree = job_tree self.setting.job in
    let low : LeafIn (leaves tree) (Some (LeafNode source)) = rw (laws.sources n leaf source kind from).stands at
    (leaves_in (nodes_of tree) tree (leaves tree) (c.plan_stands_for_tree.ensures tree) refl ((nodes_of tree).node_of source)) in
    low

pub load-requires : goal.load-requires
load-requires g c =
    let self = c.args.self.now in let pass = c.args.pass.now in let job = job_with g.B.WorkBrand.work self.setting in let v = pass.seat.me.0 in
    let laws = c.laws_hold.ensures self.setting refl in
    let (n, start, leaf, task, kind, from) = c.source_due-source.ensures in
    let at = laws.sources n leaf c.source_due-source.result kind from in
    let below = block_in job.plan (job.plan.node_of c.source_due-source.result) (LeafNode c.source_due-source.result) laws.plan at.stands in (
      c.requires.pass.0,
      omega (arith, self.sized.0, c.value-at.ensures, c.node_of.ensures, c.layout.ensures.workers, c.layout.ensures.nodes, self.key.1, below),
      rw (self.key.0, c.value-at.ensures, c.node_of.ensures, c.layout.ensures.workers, c.layout.ensures.nodes) (λ a b d e f. let x = (looks_at_value job (room_of self.setting) laws _ _ v pass.seat.me.1 pass.worker pass.number.0 pass.number.1
          _ n start leaf c.source_due-source.result c.requires.pass.2 c.requires.pass.3 task kind from (omega (arith, self.key.1))) a b d e f in (x.0, x.1, x.2, x.3.0, x.4)),
    )

pub returns-clause-pass : goal.returns-clause-pass
returns-clause-pass g c =
    let old = c.args.pass.now.seat in
    pass_kept c.args.self.now.setting _ c.args.pass.now.worker old c.load.new.seat (with_step (telling c.load.result) old.me.0) c.load.ensures.0 c.load.ensures.2.2 refl refl refl refl refl refl refl refl c.requires.pass
