use Rattle.std.proofs.Common.{◌≡◌, ◌++◌, List, length}
use Rattle.batched_pq.specs.declared.piece.Piece.{Piece}
use Rattle.batched_pq.specs.Pieces.{ArePieces, shards_in}
use Rattle.batched_pq.proofs.begin.pieces_of.Given as goal

abbrev pub invariant-loop-shard : goal.invariant-loop-shard
invariant-loop-shard l = record {
  all : l.yielded ++ l.shard-iterator.rest.items ≡ l.initial.shard-iterator.rest.items;
  number : l.number ≡ length l.yielded;
  shards : shards_in l.pieces.items ≡ l.yielded;
  pieces : (more : List Piece) → ArePieces l.number l.inserts l.takes more
      → ArePieces 0 l.inserts l.takes (l.pieces.items ++ more);
}
