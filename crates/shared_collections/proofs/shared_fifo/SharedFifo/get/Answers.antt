use Rattle.shared_collections.proofs.FifoServing.{get_is_not_done}
use Rattle.shared_collections.proofs.shared_fifo.SharedFifo.get.Goals as goal

pub unreachable-requires : goal.unreachable-requires
unreachable-requires g c = get_is_not_done _ _ _ _ _ (rw c.in-Ok-Done.field-0-is at c.in-Ok-Done.ensures.served)
