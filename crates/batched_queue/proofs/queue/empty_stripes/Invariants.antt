use Rattle.std.proofs.Common.{◌≡◌, [], replicate}
use Rattle.batched_queue.specs.Code.Stripes.{lists}
use Rattle.batched_queue.proofs.queue.empty_stripes.Given as goal

abbrev pub invariant-loop : goal.invariant-loop
invariant-loop l = lists l.stripes.items ≡ replicate l.counter []
