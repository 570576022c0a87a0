use Rattle.core_model.proofs.RunLemmas.OneRun.{one_driven}
use Rattle.core_model.proofs.laws.run.schedule_drives_to_one_state.Goals as goal

pub returns : goal.returns
returns c job schedule a b h g = one_driven job schedule a b h g
