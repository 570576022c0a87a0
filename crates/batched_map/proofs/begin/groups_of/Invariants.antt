use Rattle.std.proofs.Common.{◌≡◌, ◌++◌, drop}
use Rattle.batched_map.specs.Code.Pieces.{groups_in}
use Rattle.batched_map.proofs.begin.groups_of.Given as goal

abbrev pub invariant-loop-operation : goal.invariant-loop-operation
invariant-loop-operation l =
    l.groups.items ++ groups_in l.starts l.ranges (drop l.operation-index l.operations) ≡ groups_in l.starts l.ranges l.operations
