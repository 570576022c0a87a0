use Rattle.std.proofs.Common.{arith}
use Rattle.sp_order.specs.Code.PlanBuilder.{lists_in}
use Rattle.sp_order.proofs.BuilderLemmas.Reads.{shown_lists, count_of_moves, move_read}
use Rattle.sp_order.proofs.plan.Plan.after.Goals as goal

pub index-requires : goal.index-requires
index-requires c =
    let e = shown_lists (lists_in c.self.inside.built) _ c.args.self.now c.self.invariant c.self.view_is in
    omega (arith, count_of_moves (lists_in c.self.inside.built) c.args.self.now e, c.requires, c.self.inside.built.moves.ok.0)

pub returns : goal.returns
returns c =
    let e = shown_lists (lists_in c.self.inside.built) _ c.args.self.now c.self.invariant c.self.view_is in
    move_read (lists_in c.self.inside.built) c.args.self.now e c.args.node c.index.result.now c.requires c.index.ensures
