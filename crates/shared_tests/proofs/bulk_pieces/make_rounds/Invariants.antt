use Rattle.std.proofs.Common.{◌≡◌, false}
use Rattle.shared_calls.specs.Views.{IsCallerOf, number_of, is_lost}
use Rattle.shared_tests.proofs.bulk_pieces.make_rounds.Given as goal

abbrev pub invariant-loop-round : goal.invariant-loop-round
invariant-loop-round g l = record {
  caller : IsCallerOf l.set.shared l.caller;
  number : number_of l.caller ≡ number_of l.fn.place.0;
  sound : is_lost l.caller ≡ false;
}
