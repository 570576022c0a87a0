use Rattle.std.proofs.Common.{◌≡◌, [], replicate}
use Rattle.ready_lists.proofs.lists.ReadyLists.empty.Given as goal

abbrev pub invariant-loop-worker : goal.invariant-loop-worker
invariant-loop-worker l = l.lists.items ≡ replicate l.worker []
