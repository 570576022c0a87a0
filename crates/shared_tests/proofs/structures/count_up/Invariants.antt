use Rattle.std.proofs.Common.{◌≡◌, false}
use Rattle.shared_calls.specs.Views.{IsCallerOf, number_of, is_lost}
use Rattle.shared_tests.proofs.structures.count_up.Given as goal

abbrev pub invariant-loop : goal.invariant-loop
invariant-loop g l = record {
  caller : IsCallerOf l.counter-2.shared l.caller;
  number : number_of l.caller ≡ number_of l.fn.caller;
  sound : is_lost l.caller ≡ false;
}
