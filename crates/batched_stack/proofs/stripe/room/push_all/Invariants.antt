use Rattle.std.proofs.Common.{◌≡◌, ◌++◌, take}
use Rattle.std.specs.Prelude.{vec_capacity}
use Rattle.batched_stack.proofs.stripe.room.push_all.Given as goal

abbrev pub invariant-loop-item : goal.invariant-loop-item
invariant-loop-item l = record {
  items : l.items.items ≡ l.fn.items.items ++ take l.item-index l.more;
  room : vec_capacity l.items ≡ vec_capacity l.fn.items;
}
