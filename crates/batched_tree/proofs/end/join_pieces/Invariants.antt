use Rattle.std.proofs.Common.{◌≡◌, ◌++◌}
use Rattle.batched_tree.specs.Code.End.{replies_of, joined_keys, CanJoin}
use Rattle.batched_tree.proofs.end.join_pieces.Given as goal

abbrev pub invariant-loop-served : goal.invariant-loop-served
invariant-loop-served l = record {
  keys : l.forest.keys ++ joined_keys l.served-iterator.rest.items ≡ joined_keys l.fn.outs.items;
  replies : l.replies.items ++ replies_of l.served-iterator.rest.items ≡ replies_of l.fn.outs.items;
  can : CanJoin l.forest.keys l.served-iterator.rest.items;
}
