use Rattle.std.proofs.Common.{◌≡◌}
use Rattle.two_deques.specs.Hands.{held, IsHandOf}
use Rattle.thread_tests.proofs.deques.first_other_step.Given as goal

abbrev pub invariant-loop-place : goal.invariant-loop-place
invariant-loop-place g l =
    IsHandOf l.decks l.owner × IsHandOf l.decks l.thief × ((held l.thief).worker ≡ 1)
