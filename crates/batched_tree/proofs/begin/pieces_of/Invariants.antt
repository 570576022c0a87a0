use Rattle.std.proofs.Common.{◌≡◌, ◌+◌, take, drop, length, true}
use Rattle.std.specs.List.{list_all}
use Rattle.batched_tree.specs.Calls.{is_of_tree}
use Rattle.batched_tree.specs.Code.Begin.{AreCutPieces}
use Rattle.batched_tree.proofs.begin.pieces_of.Given as goal

-- the pieces of the calls so far
abbrev pub invariant-loop-place : goal.invariant-loop-place
invariant-loop-place l = record {
  pieces : AreCutPieces l.fn.set.keys (take l.place l.calls) l.starts l.pieces.items;
  count : length l.pieces.items ≡ length l.starts + 1;
  of_tree : list_all (λ call. is_of_tree call.op) (drop l.place l.calls) ≡ true;
}
