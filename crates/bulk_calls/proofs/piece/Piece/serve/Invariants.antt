use Rattle.std.proofs.Common.{◌≡◌, ◌++◌, drop}
use Rattle.keyed_pieces.specs.Keyed.{after_each, replies_to_each}
use Rattle.bulk_calls.specs.Singles.{after_one, answer_to}
use Rattle.bulk_calls.proofs.piece.Piece.serve.Given as goal

abbrev pub invariant-loop-operation : goal.invariant-loop-operation
invariant-loop-operation l = record {
  keys : after_each after_one l.forest.keys (drop l.operation-index l.operation-items) ≡ after_each after_one l.fn.self.forest.keys l.fn.self.operations.items;
  answers : l.answers.items ++ replies_to_each after_one answer_to l.forest.keys (drop l.operation-index l.operation-items) ≡ replies_to_each after_one answer_to l.fn.self.forest.keys l.fn.self.operations.items;
}
