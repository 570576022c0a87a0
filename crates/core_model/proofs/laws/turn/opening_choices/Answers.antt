use Rattle.core_model.proofs.RunLemmas.Facts.{opening_own, opening_stolen}
use Rattle.core_model.proofs.laws.turn.opening_choices.Goals as goal

pub returns-clause-own : goal.returns-clause-own
returns-clause-own c job = opening_own job

pub returns-clause-stolen : goal.returns-clause-stolen
returns-clause-stolen c job two = opening_stolen job two
