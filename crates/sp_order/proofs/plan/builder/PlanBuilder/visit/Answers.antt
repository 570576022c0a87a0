use Rattle.std.proofs.Common.{◌≡◌, length, ap, ◌∙◌, arith}
use Rattle.sp_order.specs.Precedence.{tree_of}
use Rattle.sp_order.specs.declared.node.Move.TheVariants.{OpenSecond, FinishParent, Arrive}
use Rattle.sp_order.specs.declared.plan.builder.Pending.{Pending}
use Rattle.sp_order.specs.Code.PlanBuilder.{lists_in}
use Rattle.sp_order.proofs.BuilderLemmas.Steps.{more_parents, seq_listed, par_listed, if_both}
use Rattle.sp_order.proofs.plan.builder.PlanBuilder.visit.Goals as goal

pub returns-in-Seq-clause-listed : goal.returns-in-Seq-clause-listed
returns-in-Seq-clause-listed c =
    let left : Pending = record { shape = c.deref.result; after = OpenSecond c.len-node.result } in
    let right : Pending = record { shape = c.deref-in-Seq.result; after = FinishParent c.len-node.result } in
    let node_is : c.len-node.result ≡ length c.args.self.now.kinds.items = c.len-node.ensures ∙ c.args.self.now.kinds.ok.0 in
    if_both c.add_block.result _ _ _ c.add_block.ensures.kinds c.add_block.ensures.stack
    (λ kinds stack. seq_listed c.args.pending left right c.args.stack.now.items c.add_block.new.stack.items (lists_in c.args.self.now) (lists_in c.add_block.new.self) _ _
    (record {
      kinds_are = rw (c.set_side.ensures.kinds, node_is) at kinds;
      moves_are = c.add_block.ensures.moves ∙ rw c.set_side.ensures.moves at c.in_ok-push.ensures.items;
      leaf_nodes_are = c.add_block.ensures.leaf_nodes ∙ c.set_side.ensures.leaf_nodes;
      stack_is = stack;
    })
    (ap tree_of c.in-Seq.is) (ap tree_of c.deref.ensures) (ap tree_of c.deref-in-Seq.ensures) (ap OpenSecond node_is) (ap FinishParent node_is))

pub returns-in-Par-clause-parents : goal.returns-in-Par-clause-parents
returns-in-Par-clause-parents c =
    let left : Pending = record { shape = c.deref-in-Par.result; after = Arrive c.len-node.result } in
    let right : Pending = record { shape = c.deref-in-Par-2.result; after = Arrive c.len-node.result } in
    let node_is : c.len-node.result ≡ length c.args.self.now.kinds.items = c.len-node.ensures ∙ c.args.self.now.kinds.ok.0 in
    if_both c.add_block-in-Par.result _ _ _ c.add_block-in-Par.ensures.kinds c.add_block-in-Par.ensures.stack
    (λ kinds stack. more_parents c.args.pending left right _ c.args.stack.now.items c.add_block-in-Par.new.stack.items (lists_in c.args.self.now) (lists_in c.add_block-in-Par.new.self)
    (record {
      kinds_are = rw (c.set_side.ensures.kinds, node_is) at kinds;
      moves_are = c.add_block-in-Par.ensures.moves ∙ rw c.set_side.ensures.moves at c.in_ok-push.ensures.items;
      leaf_nodes_are = c.add_block-in-Par.ensures.leaf_nodes ∙ c.set_side.ensures.leaf_nodes;
      stack_is = stack;
    })
    c.requires.parents (omega arith) (omega arith))

pub returns-in-Par-clause-listed : goal.returns-in-Par-clause-listed
returns-in-Par-clause-listed c =
    let left : Pending = record { shape = c.deref-in-Par.result; after = Arrive c.len-node.result } in
    let right : Pending = record { shape = c.deref-in-Par-2.result; after = Arrive c.len-node.result } in
    let node_is : c.len-node.result ≡ length c.args.self.now.kinds.items = c.len-node.ensures ∙ c.args.self.now.kinds.ok.0 in
    if_both c.add_block-in-Par.result _ _ _ c.add_block-in-Par.ensures.kinds c.add_block-in-Par.ensures.stack
    (λ kinds stack. par_listed c.args.pending left right c.args.stack.now.items c.add_block-in-Par.new.stack.items (lists_in c.args.self.now) (lists_in c.add_block-in-Par.new.self) _ _
    (record {
      kinds_are = rw (c.set_side.ensures.kinds, node_is) at kinds;
      moves_are = c.add_block-in-Par.ensures.moves ∙ rw c.set_side.ensures.moves at c.in_ok-push.ensures.items;
      leaf_nodes_are = c.add_block-in-Par.ensures.leaf_nodes ∙ c.set_side.ensures.leaf_nodes;
      stack_is = stack;
    })
    (ap tree_of c.in-Par.is) (ap tree_of c.deref-in-Par.ensures) (ap tree_of c.deref-in-Par-2.ensures) (ap Arrive node_is) (ap Arrive node_is))
