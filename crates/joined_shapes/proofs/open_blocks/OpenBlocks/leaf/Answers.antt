use Rattle.std.proofs.Common.{◌≡◌, ◌+◌, ◌<◌, ◌∙◌, sym, ap, subst, arith}
use Rattle.limits.specs.declared.TheConstants.{MOST_LEAVES}
use Rattle.joined_shapes.specs.declared.open_blocks.Step.TheVariants.{Leaf}
use Rattle.joined_shapes.specs.Blocks.{Blocks, with_leaf}
use Rattle.joined_shapes.specs.Code.Steps.{blocks_after, IsKept}
use Rattle.joined_shapes.proofs.Stepping.{after_push, leaf_kept}
use Rattle.joined_shapes.proofs.open_blocks.OpenBlocks.leaf.Goals as goal

pub invariant_of-self-2 : goal.invariant_of-self-2
invariant_of-self-2 c =
    let f = c.self.inside in
    let count : (blocks_after f.steps.items).leaves ≡ c.args.self.now.leaves = ap (λ (b : Blocks). b.leaves) c.self.view_is in
    let kept = c.self.invariant.leaves_are in
    let room : f.leaves < MOST_LEAVES = let below = c.requires in omega (arith, below, count, kept) in
    subst (λ b. IsKept b f.inner f.outer.items (f.leaves + 1)) (sym (after_push f.steps.items c.push.new.self.items Leaf c.in_ok-push.ensures.items))
    (leaf_kept (blocks_after f.steps.items) f.inner f.outer.items f.leaves room c.self.invariant)

pub returns-clause-ok : goal.returns-clause-ok
returns-clause-ok c = after_push c.self.inside.steps.items c.push.new.self.items Leaf c.in_ok-push.ensures.items ∙ ap with_leaf c.self.view_is
