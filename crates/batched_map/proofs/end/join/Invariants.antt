use Rattle.std.proofs.Common.{◌≡◌, ◌++◌}
use Rattle.keyed_pieces.specs.Dealing.{queued}
use Rattle.batched_map.specs.Code.Pieces.{trees_left, replies_left}
use Rattle.batched_map.proofs.end.join.Given as goal

abbrev pub invariant-loop-out : goal.invariant-loop-out
invariant-loop-out l = record {
  trees : l.trees.items ++ trees_left l.out-iterator.rest.items ≡ trees_left l.fn.outs.items;
  replies : queued l.all.items ++ replies_left l.out-iterator.rest.items ≡ replies_left l.fn.outs.items;
}
