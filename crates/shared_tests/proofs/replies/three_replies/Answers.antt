use Rattle.std.proofs.Common.{[], ◌∷◌, refl, arith}
use Rattle.shared_tests.proofs.replies.three_replies.Goals as goal

-- 0, 1, 2 is exchanged to 2, 1, 0, and this to 2, 0, 1
pub in_call_order-requires-clause-places : goal.in_call_order-requires-clause-places
in_call_order-requires-clause-places g c = record {
  moves = (1, 2) ∷ (0, 2) ∷ [];
  below = (omega arith, omega arith, (omega arith, omega arith, tt));
  is = refl;
}
