use Rattle.std.proofs.Common.{◌≡◌, [], length}
use Rattle.batched_pq.specs.Shards.{items_of}
use Rattle.batched_pq.proofs.queue.Queue.new.Given as goal

abbrev pub invariant-loop : goal.invariant-loop
invariant-loop l = record {
  count : length l.shards.items ≡ l.counter;
  empty : items_of l.shards.items ≡ [];
}
