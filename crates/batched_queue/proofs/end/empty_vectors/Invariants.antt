use Rattle.std.proofs.Common.{◌≡◌, [], map, replicate}
use Rattle.batched_queue.proofs.end.empty_vectors.Given as goal

abbrev pub invariant-loop : goal.invariant-loop
invariant-loop l = map (λ items. items.items) l.vectors.items ≡ replicate l.counter []
