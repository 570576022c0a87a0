use Rattle.std.proofs.Common.{◌≡◌, false}
use Rattle.core_model.specs.Choice.{some_below}
use Rattle.core_state.specs.Places.{at}
use Rattle.core_state.proofs.hold.Hold.has_taken.Given as goal

abbrev pub invariant-loop-worker : goal.invariant-loop-worker
invariant-loop-worker l = some_below (at l.self.taken false) l.worker ≡ false
