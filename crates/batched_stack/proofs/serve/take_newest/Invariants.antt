use Rattle.std.proofs.Common.{◌≡◌, ◌-◌, ◌++◌, length, take, drop, reverse}
use Rattle.std.specs.Prelude.{vec_capacity}
use Rattle.batched_stack.proofs.serve.take_newest.Given as goal

abbrev pub invariant-loop : goal.invariant-loop
invariant-loop l = record {
  items : l.items.items ≡ take (length l.fn.items.items - l.counter) l.fn.items.items;
  popped : l.popped.items ≡ l.fn.popped.items ++ reverse (drop (length l.fn.items.items - l.counter) l.fn.items.items);
  room : vec_capacity l.items ≡ vec_capacity l.fn.items;
}
