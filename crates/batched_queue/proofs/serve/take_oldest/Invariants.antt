use Rattle.std.proofs.Common.{◌≡◌, ◌++◌, length}
use Rattle.batched_queue.proofs.serve.take_oldest.Given as goal

abbrev pub invariant-loop : goal.invariant-loop
invariant-loop l = record {
  all : l.taken.items ++ l.items.items ≡ l.fn.items.items;
  count : length l.taken.items ≡ l.counter;
}
