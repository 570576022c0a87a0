use Rattle.shared_structures.specs.Sets.{set}
use Rattle.shared_structures.proofs.Replies.{replied}
use Rattle.shared_structures.proofs.set.SharedSet.insert.Goals as goal

pub unreachable-requires : goal.unreachable-requires
unreachable-requires g c = let reply = replied set _ _ _ _ _ _ _ c.in_ok-new.ensures.served in cc
