use Rattle.std.proofs.Common.{◌≡◌, ◌++◌, length}
use Rattle.piece_threads.specs.Code.Bundles.{pieces_in}
use Rattle.piece_threads.proofs.bundles.bundles_of.Given as goal

abbrev pub invariant-loop-left : goal.invariant-loop-left
invariant-loop-left g l = pieces_in l.bundles.items ++ l.left.items ≡ l.fn.ins.items

abbrev pub decreases-loop-left : goal.decreases-loop-left
decreases-loop-left g l = length l.left.items
