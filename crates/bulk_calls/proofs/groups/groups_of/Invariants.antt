use Rattle.std.proofs.Common.{◌≡◌, ◌++◌, drop}
use Rattle.bulk_calls.proofs.RangeLemmas.{groups_in}
use Rattle.bulk_calls.proofs.groups.groups_of.Given as goal

abbrev pub invariant-loop-operation : goal.invariant-loop-operation
invariant-loop-operation l = l.groups.items ++ groups_in l.starts (drop l.operation-index l.operations) ≡ groups_in l.starts l.operations
