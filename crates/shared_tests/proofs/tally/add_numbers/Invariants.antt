use Rattle.std.proofs.Common.{◌≡◌, false}
use Rattle.shared_calls.specs.Views.{IsCallerOf, number_of, is_lost}
use Rattle.shared_tests.proofs.tally.add_numbers.Given as goal

abbrev pub invariant-loop-number : goal.invariant-loop-number
invariant-loop-number g l = record {
  caller : IsCallerOf l.tally l.caller;
  number : number_of l.caller ≡ number_of l.fn.place.0;
  sound : is_lost l.caller ≡ false;
}
