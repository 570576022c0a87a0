use Rattle.std.proofs.Common.{◌<◌, ◌++◌, ◌∷◌, [], length, ◌∙◌, sym, ap, subst, arith}
use Rattle.limits.specs.declared.TheConstants.{MOST_LEAVES}
use Rattle.named_objects.specs.Objects.{named_in}
use Rattle.job_builder.specs.Code.Kept.{MayAdd}
use Rattle.job_builder.proofs.Drafting.{added}
use Rattle.job_builder.proofs.builder.Builder.add.Goals as goal

pub invariant_of-self-2 : goal.invariant_of-self-2
invariant_of-self-2 c =
    let f = c.self.inside in
    let room : length f.acts.items < MOST_LEAVES = omega arith in
    added f.job f.blocks c.leaf.new.self f.acts.items c.push_reserved.new.self.items f.sources.items c.push_reserved-2.new.self.items f.objects.items c.push_reserved-3.new.self.items
    c.args.act c.args.source c.args.object
    c.in_ok-leaf.ensures.ok
    (c.push_reserved.ensures.items ∙ ap (λ xs. xs ++ c.args.act ∷ []) c.in_ok-reserve.ensures.items)
    (c.push_reserved-2.ensures.items ∙ ap (λ xs. xs ++ c.args.source ∷ []) c.in_ok-reserve-2.ensures.items)
    (c.push_reserved-3.ensures.items ∙ ap (λ xs. xs ++ c.args.object ∷ []) c.in_ok-reserve-3.ensures.items)
    c.self.invariant room (subst (λ d. MayAdd d c.args.act c.args.source (named_in c.args.object)) (sym c.self.view_is) c.requires)
