use Rattle.shared_structures.specs.Stacks.{stack}
use Rattle.shared_structures.proofs.Replies.{replied}
use Rattle.shared_structures.proofs.stack.SharedStack.pop.Goals as goal

pub unreachable-requires : goal.unreachable-requires
unreachable-requires g c = let reply = replied stack _ _ _ _ _ _ _ c.in_ok-item.ensures.served in cc
