use Rattle.core_model.proofs.RunLemmas.OneBatch.{one_state}
use Rattle.core_model.proofs.laws.turn.event_makes_one_state.Goals as goal

pub returns : goal.returns
returns c job state a b worker event h g = one_state job state worker event a b h g
