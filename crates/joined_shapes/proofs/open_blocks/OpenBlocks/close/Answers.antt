use Rattle.std.proofs.Common.{◌∙◌, sym, ap, subst}
use Rattle.joined_shapes.specs.declared.open_blocks.Step.TheVariants.{Close}
use Rattle.joined_shapes.specs.Blocks.{closed}
use Rattle.joined_shapes.specs.Code.Steps.{blocks_after, IsKept}
use Rattle.joined_shapes.proofs.Stepping.{after_push, closed_kept}
use Rattle.joined_shapes.proofs.open_blocks.OpenBlocks.close.Goals as goal

pub invariant_of-self-in-Some : goal.invariant_of-self-in-Some
invariant_of-self-in-Some c =
    let f = c.self.inside in
    subst (λ b. IsKept b c.in-Some.start c.pop.new.self.items f.leaves) (sym (after_push f.steps.items c.push.new.self.items Close c.in_ok-push.ensures.items))
    (closed_kept (blocks_after f.steps.items) f.inner c.in-Some.start f.outer.items c.pop.new.self.items f.leaves c.in-Some.ensures.items c.self.invariant)

pub returns-in-Some-clause-ok : goal.returns-in-Some-clause-ok
returns-in-Some-clause-ok c = after_push c.self.inside.steps.items c.push.new.self.items Close c.in_ok-push.ensures.items ∙ ap closed c.self.view_is
