use Rattle.batched_stack.proofs.Copies.{copied_at_most}
use Rattle.batched_stack.proofs.laws.changes_of_room_copy_little.Goals as goal

pub returns : goal.returns
returns c = copied_at_most
