use Rattle.std.proofs.Common.{◌≡◌, ◌++◌, length}
use Rattle.keyed_pieces.specs.Dealing.{lists}
use Rattle.batched_map.specs.Code.Pieces.{ranges_in, operations_in}
use Rattle.batched_map.proofs.begin.pieces_of.Given as goal

abbrev pub invariant-loop-range : goal.invariant-loop-range
invariant-loop-range l = record {
  ranges : ranges_in l.pieces.items ++ l.range-iterator.a.rest.items ≡ l.fn.ranges.items;
  operations : operations_in l.pieces.items ++ lists l.range-iterator.b.rest.items ≡ lists l.fn.dealt.items;
  same : length l.range-iterator.a.rest.items ≡ length l.range-iterator.b.rest.items;
}
