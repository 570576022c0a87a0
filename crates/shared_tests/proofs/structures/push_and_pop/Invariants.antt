use Rattle.std.proofs.Common.{◌≡◌, false}
use Rattle.shared_calls.specs.Views.{IsCallerOf, is_lost}
use Rattle.shared_tests.proofs.structures.push_and_pop.Given as goal

abbrev pub invariant-loop-item : goal.invariant-loop-item
invariant-loop-item g l = record {
  caller : IsCallerOf l.stack.shared l.caller;
  sound : is_lost l.caller ≡ false;
}
