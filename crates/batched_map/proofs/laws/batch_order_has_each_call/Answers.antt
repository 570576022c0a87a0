use Rattle.batched_map.proofs.OneBatch.{permutes}
use Rattle.batched_map.proofs.laws.batch_order_has_each_call.Goals as goal

pub returns : goal.returns
returns c = permutes
