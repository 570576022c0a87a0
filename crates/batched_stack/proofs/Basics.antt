-- Small facts on lists and comparisons that several proofs use.
use Rattle.std.proofs.Common.{◌≡◌, ℕ, true, false, cond, List, [], length, take, drop, subst, arith}
use Rattle.std.proofs.lemmas.Grind.{common_steps}

pub true_not_false : true ≡ false → ⊥
true_not_false e = subst (λ b. cond b Unit ⊥) e tt

pub whole_take : (xs : List ℕ) (n : ℕ) → n ≡ length xs → take n xs ≡ xs
whole_take xs n is = grind (arith, common_steps, is)

pub whole_drop : (xs : List ℕ) (n : ℕ) → n ≡ length xs → drop n xs ≡ []
whole_drop xs n is = grind (arith, common_steps, is)
