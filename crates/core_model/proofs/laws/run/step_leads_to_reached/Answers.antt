use Rattle.core_model.proofs.RunLemmas.Facts.{step_reached}
use Rattle.core_model.proofs.laws.run.step_leads_to_reached.Goals as goal

pub returns : goal.returns
returns c job old new worker event before step = step_reached job old new worker event before step
