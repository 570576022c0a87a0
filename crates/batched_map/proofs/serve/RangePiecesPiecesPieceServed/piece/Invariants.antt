use Rattle.std.proofs.Common.{◌≡◌, ◌++◌, drop}
use Rattle.batched_map.specs.Maps.{map_after}
use Rattle.batched_map.specs.Code.Ranges.{replies_in}
use Rattle.batched_map.proofs.serve.RangePiecesPiecesPieceServed.piece.Given as goal

abbrev pub invariant-loop-operation : goal.invariant-loop-operation
invariant-loop-operation l = record {
  tree : map_after l.tree (drop l.operation-index l.operation-items) ≡ map_after l.initial.tree l.operation-items;
  replies : l.replies.items ++ replies_in l.before l.tree (drop l.operation-index l.operation-items) ≡ replies_in l.before l.initial.tree l.operation-items;
}
