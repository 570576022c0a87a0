use Rattle.std.proofs.Common.{◌≢◌, ◌<◌}
use Rattle.two_deques.specs.Hands.{held, workers_of, IsHandOf}
use Rattle.thread_tests.proofs.deques.race.Given as goal

abbrev pub invariant-loop-turn : goal.invariant-loop-turn
invariant-loop-turn g l =
    IsHandOf l.decks l.racer.hand × (l.racer.victim < workers_of l.decks)
    × (l.racer.victim ≢ (held l.racer.hand).worker)

abbrev pub invariant-loop : goal.invariant-loop
invariant-loop g l = IsHandOf l.decks l.racer.hand
