use Rattle.batched_map.proofs.Serial.{after_is, replies_are}
use Rattle.batched_map.proofs.laws.batches_are_served_as_one.Goals as goal

pub returns-clause-entries : goal.returns-clause-entries
returns-clause-entries c = after_is

pub returns-clause-replies : goal.returns-clause-replies
returns-clause-replies c = replies_are
