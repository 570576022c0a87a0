use Rattle.std.proofs.Common.{◌≡◌, ◌≤◌, [], length, map, replicate}
use Rattle.two_deques.specs.Reaches.{ReachUpTo}
use Rattle.two_deques.specs.Ends.{stolen_there}
use Rattle.two_deques.proofs.ends.opening.reaches_into.Given as goal

abbrev pub invariant-loop-i : goal.invariant-loop-i
invariant-loop-i g l =
    ReachUpTo l.i l.thieves l.reaches.items × (map stolen_there l.reaches.items ≡ replicate l.i [])
    × (map (λ reach. reach.failed_steals) l.reaches.items ≡ replicate l.i 0) × (l.i ≤ length l.thieves)
