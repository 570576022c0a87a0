use Rattle.core_model.proofs.RunLemmas.Facts.{driven_reached, driven_done}
use Rattle.core_model.proofs.laws.run.driven_is_reached.Goals as goal

pub returns-clause-reached : goal.returns-clause-reached
returns-clause-reached c job schedule state drives = driven_reached job schedule state drives

pub returns-clause-done : goal.returns-clause-done
returns-clause-done c job schedule state drives = driven_done job schedule state drives
