use Rattle.std.proofs.Common.{◌∷◌, ◌++◌, [], ◌∙◌, sym, ap, subst}
use Rattle.joined_shapes.specs.declared.open_blocks.Step.TheVariants.{Open}
use Rattle.joined_shapes.specs.Blocks.{Blocks, opened}
use Rattle.joined_shapes.specs.Code.Steps.{blocks_after, IsKept}
use Rattle.joined_shapes.proofs.Stepping.{after_push, opened_kept}
use Rattle.joined_shapes.proofs.open_blocks.OpenBlocks.open.Goals as goal

pub invariant_of-self-2 : goal.invariant_of-self-2
invariant_of-self-2 c =
    let f = c.self.inside in
    subst (λ b. IsKept b (record { order = c.args.order; first = f.leaves }) c.push_reserved.new.self.items f.leaves)
    (sym (after_push f.steps.items c.push.new.self.items (Open c.args.order) c.in_ok-push.ensures.items))
    (opened_kept (blocks_after f.steps.items) c.args.order f.inner f.outer.items c.push_reserved.new.self.items f.leaves
    (c.push_reserved.ensures.items ∙ ap (λ starts. starts ++ f.inner ∷ []) c.in_ok-reserve.ensures.items) c.self.invariant)

pub returns-clause-ok : goal.returns-clause-ok
returns-clause-ok c =
    after_push c.self.inside.steps.items c.push.new.self.items (Open c.args.order) c.in_ok-push.ensures.items ∙ ap (λ (b : Blocks). opened b c.args.order) c.self.view_is
