-- The climb from `v`'s node ends where the two leaves part.
use Rattle.std.proofs.Common.{◌≡◌, ◌↔◌, false, IsTrue, sym, ◌∙◌, arith, rules}
use Rattle.sp_order.specs.declared.node.Move.TheVariants.{FinishParent}
use Rattle.sp_order.specs.Preorder.{nodes_of}
use Rattle.sp_order.specs.Code.PlanBuilder.{lists_in}
use Rattle.sp_order.proofs.PlanLemmas.Laws.{plan_laws}
use Rattle.sp_order.proofs.BuilderLemmas.Preorders.{plan_of_tree}
use Rattle.sp_order.proofs.BuilderLemmas.Reads.{shown_lists, count_of_moves, count_of_leaf_nodes, move_read, leaf_node_read}
use Rattle.sp_order.proofs.PlanLemmas.Climbs.{climb_from, climb_on, climbed_past, climbed_out, parted, by_climb, never}
use Rattle.sp_order.proofs.plan.Plan.before.Goals as goal

pub index-first-requires : goal.index-first-requires
index-first-requires c =
    let e = shown_lists (lists_in c.self.inside.built) _ c.args.self.now c.self.invariant c.self.view_is in
    omega (arith, count_of_leaf_nodes (lists_in c.self.inside.built) c.args.self.now e, c.requires.u_in, c.self.inside.built.leaf_nodes.ok.0)

pub index-node-requires : goal.index-node-requires
index-node-requires c =
    let e = shown_lists (lists_in c.self.inside.built) _ c.args.self.now c.self.invariant c.self.view_is in
    omega (arith, count_of_leaf_nodes (lists_in c.self.inside.built) c.args.self.now e, c.requires.v_in, c.self.inside.built.leaf_nodes.ok.0)

pub loop-node-init : goal.loop-node-init
loop-node-init c =
    let e = shown_lists (lists_in c.self.inside.built) _ c.args.self.now c.self.invariant c.self.view_is in
    let node_is = leaf_node_read (lists_in c.self.inside.built) c.args.self.now e c.args.v c.index-node.result.now c.requires.v_in c.index-node.ensures in
    rw node_is (climb_from (nodes_of c.args.self.now) c.args.self.now (plan_of_tree c.args.self.now) c.index-first.result.now c.args.v c.requires.v_in)

pub index-requires : goal.index-requires
index-requires c =
    let e = shown_lists (lists_in c.self.inside.built) _ c.args.self.now c.self.invariant c.self.view_is in
    omega (arith, count_of_moves (lists_in c.self.inside.built) c.args.self.now e, c.loop-node.invariant.inside, c.self.inside.built.moves.ok.0)

pub returns-in_default : goal.returns-in_default
returns-in_default c =
    let e = shown_lists (lists_in c.self.inside.built) _ c.args.self.now c.self.invariant c.self.view_is in
    let first_is = leaf_node_read (lists_in c.self.inside.built) c.args.self.now e c.args.u c.index-first.result.now c.requires.u_in c.index-first.ensures in
    let move_is = move_read (lists_in c.self.inside.built) c.args.self.now e c.loop-node.node c.index.result.now c.loop-node.invariant.inside c.index.ensures in
    by_climb (nodes_of c.args.self.now) c.args.self.now (plan_of_tree c.args.self.now) c.args.u c.args.v c.requires.u_in c.requires.v_in c.index-first.result.now first_is false
    (never (climbed_out (nodes_of c.args.self.now) c.args.self.now (plan_of_tree c.args.self.now) c.index-first.result.now _ c.loop-node.node c.loop-node.invariant
    (rw move_is at (sym c.in_default.ensures))))

pub returns-then-parent-first : goal.returns-then-parent-first
returns-then-parent-first c =
    let e = shown_lists (lists_in c.self.inside.built) _ c.args.self.now c.self.invariant c.self.view_is in
    let first_is = leaf_node_read (lists_in c.self.inside.built) c.args.self.now e c.args.u c.index-first.result.now c.requires.u_in c.index-first.ensures in
    let move_is = move_read (lists_in c.self.inside.built) c.args.self.now e c.loop-node.node c.index.result.now c.loop-node.invariant.inside c.index.ensures in
    let finishes : IsTrue c.eq.result ↔ (c.index.result.now ≡ FinishParent c.in-Some.parent) = search rules in
    let parts = parted (nodes_of c.args.self.now) c.args.self.now (plan_of_tree c.args.self.now) c.index-first.result.now _ c.loop-node.node c.in-Some.parent c.loop-node.invariant
    c.loop-node-test.true (rw move_is at (sym c.in-Some.ensures)) c.if-parent-first.true in
    by_climb (nodes_of c.args.self.now) c.args.self.now (plan_of_tree c.args.self.now) c.args.u c.args.v c.requires.u_in c.requires.v_in c.index-first.result.now first_is c.eq.result
    (λ yes. parts.0 (rw move_is at (finishes.0 yes)), λ s. finishes.1 (move_is ∙ parts.1 s))

pub loop-node-smaller : goal.loop-node-smaller
loop-node-smaller c =
    let e = shown_lists (lists_in c.self.inside.built) _ c.args.self.now c.self.invariant c.self.view_is in
    let move_is = move_read (lists_in c.self.inside.built) c.args.self.now e c.loop-node.node c.index.result.now c.loop-node.invariant.inside c.index.ensures in
    (plan_laws (nodes_of c.args.self.now) c.args.self.now (plan_of_tree c.args.self.now)).deeper c.in-Some.parent c.loop-node.node (rw move_is at (sym c.in-Some.ensures))

pub loop-node-preserved : goal.loop-node-preserved
loop-node-preserved c =
    let e = shown_lists (lists_in c.self.inside.built) _ c.args.self.now c.self.invariant c.self.view_is in
    let move_is = move_read (lists_in c.self.inside.built) c.args.self.now e c.loop-node.node c.index.result.now c.loop-node.invariant.inside c.index.ensures in
    climb_on (nodes_of c.args.self.now) c.args.self.now (plan_of_tree c.args.self.now) c.index-first.result.now _ c.loop-node.node c.in-Some.parent c.loop-node.invariant
    (rw move_is at (sym c.in-Some.ensures)) c.if-parent-first.false

pub returns : goal.returns
returns c =
    let e = shown_lists (lists_in c.self.inside.built) _ c.args.self.now c.self.invariant c.self.view_is in
    let first_is = leaf_node_read (lists_in c.self.inside.built) c.args.self.now e c.args.u c.index-first.result.now c.requires.u_in c.index-first.ensures in
    by_climb (nodes_of c.args.self.now) c.args.self.now (plan_of_tree c.args.self.now) c.args.u c.args.v c.requires.u_in c.requires.v_in c.index-first.result.now first_is false
    (never (climbed_past (nodes_of c.args.self.now) c.args.self.now (plan_of_tree c.args.self.now) c.index-first.result.now _ c.loop-node.node c.loop-node.invariant c.loop-node-test.false))
