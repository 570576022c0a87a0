use Rattle.core_model.proofs.WaitLemmas.Keeps.{waits_from_now}
use Rattle.core_model.proofs.laws.wait.trapped_waits_from_now.Goals as goal

pub returns : goal.returns
returns c = waits_from_now
