use Rattle.std.proofs.Common.{◌≡◌, ◌++◌, drop}
use Rattle.batched_stack.specs.Lists.{rooms_in}
use Rattle.batched_stack.proofs.end.rooms_of.Given as goal

abbrev pub invariant-loop-stripe : goal.invariant-loop-stripe
invariant-loop-stripe l = l.rooms.items ++ rooms_in (drop l.stripe-index l.stripes) ≡ rooms_in l.stripes
