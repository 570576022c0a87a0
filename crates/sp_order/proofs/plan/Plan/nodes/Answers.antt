use Rattle.std.proofs.Common.{◌∙◌, arith}
use Rattle.sp_order.specs.Code.PlanBuilder.{lists_in}
use Rattle.sp_order.proofs.BuilderLemmas.Reads.{shown_lists, count_of_kinds, few_kinds}
use Rattle.sp_order.proofs.plan.Plan.nodes.Goals as goal

pub overflow_cast-result : goal.overflow_cast-result
overflow_cast-result c =
    omega (arith, few_kinds (lists_in c.self.inside.built) _ c.self.invariant, c.len.ensures, c.self.inside.built.kinds.ok.0)

pub returns-clause-nodes : goal.returns-clause-nodes
returns-clause-nodes c =
    let e = shown_lists (lists_in c.self.inside.built) _ c.args.self.now c.self.invariant c.self.view_is in
    c.len.ensures ∙ c.self.inside.built.kinds.ok.0 ∙ count_of_kinds (lists_in c.self.inside.built) c.args.self.now e

pub returns-clause-most : goal.returns-clause-most
returns-clause-most c =
    omega (arith, few_kinds (lists_in c.self.inside.built) _ c.self.invariant, c.len.ensures, c.self.inside.built.kinds.ok.0)
