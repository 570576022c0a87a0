use Rattle.locked_run.specs.Code.Hints.{AreHintsOf}
use Rattle.locked_run.proofs.worker.work.Given as goal

abbrev pub invariant-loop : goal.invariant-loop
invariant-loop g l = AreHintsOf l.shared.decks l.worker.hints
