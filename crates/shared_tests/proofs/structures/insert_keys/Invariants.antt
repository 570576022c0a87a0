use Rattle.std.proofs.Common.{◌≡◌, false}
use Rattle.shared_calls.specs.Views.{IsCallerOf, is_lost}
use Rattle.shared_tests.proofs.structures.insert_keys.Given as goal

abbrev pub invariant-loop-key : goal.invariant-loop-key
invariant-loop-key g l = record {
  caller : IsCallerOf l.set.shared l.caller;
  sound : is_lost l.caller ≡ false;
}
