use Rattle.shared_collections.proofs.FifoServing.{leave_in_order}
use Rattle.shared_collections.proofs.laws.items_leave_in_the_order_in_which_they_came.Goals as goal

pub returns : goal.returns
returns c = leave_in_order
