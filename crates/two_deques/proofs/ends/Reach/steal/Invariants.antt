use Rattle.std.proofs.Common.{◌≡◌}
use Rattle.crossbeam_deque.specs.Handles.{view, IsPassOf, stealer_deque}
use Rattle.two_deques.proofs.ends.Reach.steal.Given as goal

abbrev pub invariant-loop : goal.invariant-loop
invariant-loop g l =
    IsPassOf (stealer_deque l.thief) l.self.pass × (view l.self.pass ≡ view l.initial.self.pass)
    × (l.self.failed_steals ≡ l.initial.self.failed_steals)
