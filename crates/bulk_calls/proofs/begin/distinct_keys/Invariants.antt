use Rattle.std.proofs.Common.{◌≡◌, ◌++◌, drop}
use Rattle.bulk_calls.specs.Singles.{keys_in}
use Rattle.bulk_calls.proofs.begin.distinct_keys.Given as goal

abbrev pub invariant-loop-operation : goal.invariant-loop-operation
invariant-loop-operation l = l.keys.items ++ keys_in (drop l.operation-index l.operations) ≡ keys_in l.operations
