use Rattle.ready_lists.proofs.ListLemmas.NonEmpty.{none_opened}
use Rattle.ready_lists.proofs.lists.ReadyLists.empty.Goals as goal

pub invariant_of-result : goal.invariant_of-result
invariant_of-result c = rw c.loop-worker.invariant (none_opened c.loop-worker.worker)
