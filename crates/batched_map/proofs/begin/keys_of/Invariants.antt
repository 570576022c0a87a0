use Rattle.std.proofs.Common.{◌≡◌, ◌++◌, drop}
use Rattle.batched_map.specs.Maps.{keys_in}
use Rattle.batched_map.proofs.begin.keys_of.Given as goal

abbrev pub invariant-loop-operation : goal.invariant-loop-operation
invariant-loop-operation l = l.keys.items ++ keys_in (drop l.operation-index l.operations) ≡ keys_in l.operations
