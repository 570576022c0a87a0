use Rattle.core_model.proofs.Inductive.FromParts.{parts_carried}
use Rattle.core_model.proofs.WaitLemmas.Keeps.{waits_kept}
use Rattle.core_model.proofs.laws.wait.event_keeps_waits.Goals as goal

pub returns : goal.returns
returns c job old new worker event waiter since laws parts = waits_kept job old new worker event waiter since laws (parts_carried job old parts)
