use Rattle.batched_queue.proofs.Serial.{after_is, replies_are}
use Rattle.batched_queue.proofs.laws.batches_are_served_as_one.Goals as goal

pub returns-clause-items : goal.returns-clause-items
returns-clause-items c = after_is

pub returns-clause-replies : goal.returns-clause-replies
returns-clause-replies c = replies_are
