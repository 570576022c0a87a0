use Rattle.locked_run.proofs.TurnLemmas.{given_asks_none, asked_tells}
use Rattle.locked_run.proofs.turn.turn_with.Goals as goal

pub returns-in-Some-clause-due : goal.returns-in-Some-clause-due
returns-in-Some-clause-due c = given_asks_none c.turn-in-Some.result _ _ _ _ c.turn-in-Some.ensures.turn

pub returns-in-None-clause-due : goal.returns-in-None-clause-due
returns-in-None-clause-due c = λ steps spin. asked_tells _ _ c.in_ok-other.other c.in-Spin.steps steps c.in_ok-other.ensures.turn c.in-Spin.is spin
