use Rattle.std.proofs.Common.{◌∙◌, reverse, sym, ap}
use Rattle.joined_shapes.specs.Blocks.{Blocks, is_shown}
use Rattle.joined_shapes.specs.Code.Steps.{blocks_after, starts_show}
use Rattle.joined_shapes.proofs.Stepping.{shown_outside}
use Rattle.joined_shapes.proofs.open_blocks.OpenBlocks.shows.Goals as goal

pub returns : goal.returns
returns c =
    let f = c.self.inside in
    c.are_showing.ensures ∙ ap (λ starts. starts_show (reverse starts) c.args.leaf) c.as_slice.ensures.value
    ∙ sym (shown_outside (blocks_after f.steps.items) f.inner f.outer.items f.leaves c.args.leaf c.self.invariant c.if-self-leaf.false)
    ∙ ap (λ (b : Blocks). is_shown b c.args.leaf) c.self.view_is
