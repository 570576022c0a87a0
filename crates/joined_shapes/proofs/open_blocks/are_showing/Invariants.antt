use Rattle.std.proofs.Common.{◌≡◌, length, reverse}
use Rattle.joined_shapes.specs.Code.Steps.{starts_show}
use Rattle.joined_shapes.proofs.open_blocks.are_showing.Given as goal

abbrev pub invariant-loop-start : goal.invariant-loop-start
invariant-loop-start l = starts_show (reverse l.rest) l.leaf ≡ starts_show (reverse l.fn.outer) l.leaf

abbrev pub decreases-loop-start : goal.decreases-loop-start
decreases-loop-start l = length l.rest
