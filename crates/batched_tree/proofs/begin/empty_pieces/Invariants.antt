use Rattle.std.proofs.Common.{◌≡◌, ◌++◌, [], List, drop, length}
use Rattle.batched_tree.specs.declared.piece.Piece.{Piece}
use Rattle.batched_tree.specs.Code.Begin.{AreCutPieces}
use Rattle.batched_tree.proofs.begin.empty_pieces.Given as goal

-- the parts of the remaining set continue those so far
abbrev pub invariant-loop-start : goal.invariant-loop-start
invariant-loop-start l = record {
  pieces : (more : List Piece) → AreCutPieces l.rest [] (drop l.start-index l.starts) more
      → AreCutPieces l.fn.set.keys [] l.starts (l.pieces.items ++ more);
  count : length l.pieces.items ≡ l.start-index;
}
