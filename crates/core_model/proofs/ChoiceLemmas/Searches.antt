-- Searches for the numbers below a bound that are chosen, one number after another.
use Rattle.std.proofs.Common.{ℕ, zero, suc, ◌≡◌, ◌<◌, ◌≤◌, ◌+◌, Bool, true, false, Option, Some, None, arith, inl, inr, refl, add-one}
use Rattle.std.proofs.lemmas.Bool.{cases_lt}
use Rattle.core_model.specs.Choice.{some_below, first_of, least_below}

-- one that is found stays found
pub some_stays : (chosen : ℕ → Bool) (k bound : ℕ) → some_below chosen k ≡ true → k ≤ bound → some_below chosen bound ≡ true
unfolding some_below
some_stays chosen k zero found below = let e : k ≡ 0 = omega (arith, below) in rw e at found
some_stays chosen k (suc bound) found below = elim (cases_lt bound k) [
  | inl past ↦ let e : k ≡ suc bound = omega (arith, past, below) in rw e at found
  | inr before ↦ rw (some_stays chosen k bound found before) refl
]

pub least_stays : (chosen : ℕ → Bool) (k bound least : ℕ) → least_below chosen k ≡ Some least → k ≤ bound → least_below chosen bound ≡ Some least
unfolding least_below
least_stays chosen k zero least found below = let e : k ≡ 0 = omega (arith, below) in rw e at found
least_stays chosen k (suc bound) least found below = elim (cases_lt bound k) [
  | inl past ↦ let e : k ≡ suc bound = omega (arith, past, below) in rw e at found
  | inr before ↦ rw (least_stays chosen k bound least found before) refl
]

-- the next number is chosen
pub some_here : (chosen : ℕ → Bool) (k bound : ℕ) → chosen k ≡ true → k < bound → some_below chosen bound ≡ true
unfolding some_below
some_here chosen k bound here below = some_stays chosen (suc k) bound (rw here (grind arith)) (omega (arith, below))

pub least_here : (chosen : ℕ → Bool) (k bound : ℕ) → least_below chosen k ≡ None → chosen k ≡ true → k < bound → least_below chosen bound ≡ Some k
unfolding least_below
least_here chosen k bound none here below = least_stays chosen (suc k) bound k (rw (none, here) refl) (omega (arith, below))

-- the next number is not chosen
some_next : (chosen : ℕ → Bool) (k : ℕ) → some_below chosen k ≡ false → chosen k ≡ false → some_below chosen (suc k) ≡ false
unfolding some_below
some_next chosen k none passed = rw (none, passed) refl

pub some_passed : (chosen : ℕ → Bool) (k : ℕ) → some_below chosen k ≡ false → chosen k ≡ false → some_below chosen (k + 1) ≡ false
some_passed chosen k none passed = rw (add-one k) (some_next chosen k none passed)

least_next : (chosen : ℕ → Bool) (k : ℕ) → least_below chosen k ≡ None → chosen k ≡ false → least_below chosen (suc k) ≡ None
unfolding least_below
least_next chosen k none passed = rw (none, passed) refl

pub least_passed : (chosen : ℕ → Bool) (k : ℕ) → least_below chosen k ≡ None → chosen k ≡ false → least_below chosen (k + 1) ≡ None
least_passed chosen k none passed = rw (add-one k) (least_next chosen k none passed)

-- the least number that is found is below the bound
first_below : (chosen : ℕ → Bool) (b : Bool) (o : Option ℕ) (bound least : ℕ) → ((found : ℕ) → o ≡ Some found → found < bound) → first_of o b bound ≡ Some least → least < suc bound
first_below chosen b (Some found) bound least h e = let below = h found refl in let same : found ≡ least = cc in omega (arith, below, same)
first_below chosen true None bound least h e = let same : bound ≡ least = cc in omega (arith, same)
first_below chosen false None bound least h e = absurd cc

pub least_in : (chosen : ℕ → Bool) (bound least : ℕ) → least_below chosen bound ≡ Some least → least < bound
unfolding least_below
least_in chosen zero least e = absurd cc
least_in chosen (suc bound) least e = first_below chosen (chosen bound) (least_below chosen bound) bound least (λ found f. least_in chosen bound found f) e
