use Rattle.std.proofs.Common.{◌≡◌, false}
use Rattle.shared_calls.specs.Views.{IsCallerOf, is_lost}
use Rattle.shared_tests.proofs.bulk_pieces.call_until_helped.Given as goal

abbrev pub invariant-loop : goal.invariant-loop
invariant-loop g l = record {
  caller : IsCallerOf l.set.shared l.caller;
  sound : is_lost l.caller ≡ false;
}
