use Rattle.std.proofs.Common.{◌≡◌, None}
use Rattle.core_model.specs.Choice.{least_below, is_owed}
use Rattle.core_state.specs.Holds.{hold_view}
use Rattle.core_state.proofs.hold.Hold.least_owed.Given as goal

abbrev pub invariant-loop-worker : goal.invariant-loop-worker
invariant-loop-worker l = least_below (is_owed (hold_view l.self)) l.worker ≡ None
