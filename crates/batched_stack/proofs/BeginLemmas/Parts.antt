-- The pushes and the pops of a stripe, computed from its lengths.
use Rattle.std.proofs.Common.{◌≡◌, ℕ, zero, suc, ◌+◌, ◌-◌, ◌%◌, ◌<◌, ◌≤◌, true, false, cond, eqb, List, [], ◌∷◌, ◌++◌, length, refl, sym, ◌∙◌, ap, arith}
use Rattle.std.proofs.lemmas.Bool.{eqb-true, eqb-false}
use Rattle.batched_stack.specs.Stripes.{stripe_length, stripe}
use Rattle.batched_stack.specs.Pieces.{pushes_to, pops_from}
use Rattle.batched_stack.proofs.StripeLemmas.Striped.{stripe_append, length_stripe, both_lengths}

here : (j n pops : ℕ) → j < 16 → n % 16 ≡ j
    → 1 + (stripe_length j n - stripe_length j (n - pops)) ≡ stripe_length j (n + 1) - stripe_length j (n + 1 - (pops + 1))
here j n pops low is = omega (arith, is)

elsewhere : (j n pops : ℕ) → j < 16 → (n % 16 ≡ j → ⊥)
    → stripe_length j n - stripe_length j (n - pops) ≡ stripe_length j (n + 1) - stripe_length j (n + 1 - (pops + 1))
elsewhere j n pops low other = omega (arith, other)

-- the number of pops that take an item of a stripe is the difference of its lengths before and after
pub pops_from_is : (j n pops : ℕ) → j < 16
    → pops_from j n pops ≡ stripe_length j n - stripe_length j (n - pops)
pops_from_is j n zero low = omega arith
pops_from_is j zero (suc pops) low = omega arith
pops_from_is j (suc n) (suc pops) low =
    let ih = pops_from_is j n pops low in
    elim (eqb (n % 16) j) as (λ b. eqb (n % 16) j ≡ b → cond b (1 + pops_from j n pops) (pops_from j n pops) ≡ stripe_length j (suc n) - stripe_length j (suc n - suc pops)) [
      | true ↦ λ e. rw ih (omega (arith, here j n pops low (eqb-true (n % 16) j e)))
      | false ↦ λ e. rw ih (omega (arith, elsewhere j n pops low (eqb-false (n % 16) j e)))
    ] refl

one_elsewhere : (j x : ℕ) → 0 < j → j < 16 → stripe j (x ∷ []) ≡ []
one_elsewhere j x some low = let none : stripe_length j 1 ≡ 0 = omega arith in rw none refl

first_here : (j n : ℕ) → j < 16 → n % 16 ≡ j → (j + 16 - n % 16) % 16 ≡ 0
first_here j n low is = omega (arith, is)

first_more : (j n : ℕ) → j < 16
    → (j + 16 - (n + 1) % 16) % 16 ≡ ((j + 16 - n % 16) % 16 + 16 - 1 % 16) % 16
first_more j n low = omega arith

first_other : (j n : ℕ) → j < 16 → (n % 16 ≡ j → ⊥) → 0 < (j + 16 - n % 16) % 16
first_other j n low other = omega (arith, other)

first_low : (j n : ℕ) → (j + 16 - n % 16) % 16 < 16
first_low j n = omega arith

-- the pushes to a stripe are every sixteenth push, from its first one on
pub pushes_to_is : (j n : ℕ) (items : List ℕ) → j < 16
    → pushes_to j n items ≡ stripe ((j + 16 - n % 16) % 16) items
pushes_to_is j n [] low = let none : stripe_length ((j + 16 - n % 16) % 16) 0 ≡ 0 = omega arith in rw none refl
pushes_to_is j n (item ∷ items) low =
    let first = (j + 16 - n % 16) % 16 in
    let more = stripe_append first (item ∷ []) items (first_low j n) in
    let ih = pushes_to_is j (n + 1) items low ∙ ap (λ k. stripe k items) (first_more j n low) in
    elim (eqb (n % 16) j) as (λ b. eqb (n % 16) j ≡ b → cond b (item ∷ pushes_to j (n + 1) items) (pushes_to j (n + 1) items) ≡ stripe first (item ∷ items)) [
      | true ↦ λ e. ap (λ xs. item ∷ xs) ih ∙ ap (λ xs. xs ++ stripe ((first + 16 - 1 % 16) % 16) items) (sym (ap (λ k. stripe k (item ∷ [])) (first_here j n low (eqb-true (n % 16) j e)))) ∙ sym more
      | false ↦ λ e. ih ∙ ap (λ xs. xs ++ stripe ((first + 16 - 1 % 16) % 16) items) (sym (one_elsewhere first item (first_other j n low (eqb-false (n % 16) j e)) (first_low j n))) ∙ sym more
    ] refl

-- at most as many pops take an item of a stripe as it has items, with the pushes to it
pub few_pops : (j n pops : ℕ) (items : List ℕ) → j < 16
    → pops_from j (n + length items) pops ≤ stripe_length j n + length (stripe ((j + 16 - n % 16) % 16) items)
few_pops j n pops items low =
    let both = both_lengths j n (length items) low in
    rw (pops_from_is j (n + length items) pops low, length_stripe ((j + 16 - n % 16) % 16) items, both) (omega arith)
