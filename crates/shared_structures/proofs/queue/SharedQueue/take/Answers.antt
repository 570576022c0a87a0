use Rattle.shared_structures.specs.Queues.{queue}
use Rattle.shared_structures.proofs.Replies.{replied}
use Rattle.shared_structures.proofs.queue.SharedQueue.take.Goals as goal

pub unreachable-requires : goal.unreachable-requires
unreachable-requires g c = let reply = replied queue _ _ _ _ _ _ _ c.in_ok-item.ensures.served in cc
