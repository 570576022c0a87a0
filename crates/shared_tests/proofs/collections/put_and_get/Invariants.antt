use Rattle.std.proofs.Common.{◌≡◌, false}
use Rattle.shared_calls.specs.Views.{IsCallerOf, number_of, is_lost}
use Rattle.shared_tests.proofs.collections.put_and_get.Given as goal

abbrev pub invariant-loop-item : goal.invariant-loop-item
invariant-loop-item g l = record {
  caller : IsCallerOf l.queue.shared l.caller;
  number : number_of l.caller ≡ number_of l.initial.caller;
  sound : is_lost l.caller ≡ false;
}
