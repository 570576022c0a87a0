use Rattle.std.proofs.Common.{◌≡◌, [], replicate}
use Rattle.batched_stack.specs.Lists.{lists, rooms_in}
use Rattle.batched_stack.proofs.stack.empty_stripes.Given as goal

abbrev pub invariant-loop : goal.invariant-loop
invariant-loop l = record {
  items : lists l.stripes.items ≡ replicate l.counter [];
  rooms : rooms_in l.stripes.items ≡ replicate l.counter 16;
}
