use Rattle.std.proofs.Common.{◌≡◌, ◌++◌, length}
use Rattle.keyed_pieces.specs.Dealing.{lists}
use Rattle.forest_cuts.specs.Parts.{keys_of_each}
use Rattle.bulk_calls.specs.Pieces.{ranges_of, operations_of}
use Rattle.bulk_calls.proofs.begin.pieces_of.Given as goal

abbrev pub invariant-loop-forest : goal.invariant-loop-forest
invariant-loop-forest l = record {
  ranges : ranges_of l.pieces.items ++ keys_of_each l.forest-iterator.rest.items ≡ keys_of_each l.fn.forests.items;
  operations : operations_of l.pieces.items ++ lists l.dealt.rest.items ≡ lists l.fn.operations.items;
  same : length l.dealt.rest.items ≡ length l.forest-iterator.rest.items;
}
