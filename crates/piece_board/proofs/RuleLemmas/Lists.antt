-- Lists as functions of an index, and functions changed at one number.
use Rattle.std.proofs.Common.{◌≡◌, ◌≢◌, ◌⊎◌, ℕ, zero, suc, ◌<◌, List, [], ◌∷◌, ◌++◌, length, map, replicate, eqb, cond, eq-eqb, ne_eqb, sym, refl, ap, inl, inr, ⊎_elim, arith}
use mathlib.Core.Option.{some, some-ne-none, some-injective}
use lib.ListN.{get_elem?}

module _ {A : Type 0} where
  -- `f` with the value `a` at `k`
  abbrev pub changed : (ℕ → A) → ℕ → A → ℕ → A
  changed f k a j = cond (eqb j k) a (f j)

  pub changed_here : (f : ℕ → A) (k j : ℕ) (a : A) → j ≡ k → changed f k a j ≡ a
  changed_here f k j a is = ap (λ b. cond b a (f j)) (eq-eqb j k is)

  pub changed_else : (f : ℕ → A) (k j : ℕ) (a : A) → j ≢ k → changed f k a j ≡ f j
  changed_else f k j a ne = ap (λ b. cond b a (f j)) (ne_eqb j k ne)

  pub inside : (l : List A) (i : ℕ) (a : A) → get_elem? l i ≡ some a → i < length l
  inside [] i a e = absurd (some-ne-none a (sym e))
  inside (x ∷ xs) zero a e = omega arith
  inside (x ∷ xs) (suc i) a e = omega (arith, inside xs i a e)

  -- an element of a list with one more at its end is an old one or the new one
  pub old_or_last : (l : List A) (a b : A) (j : ℕ) → get_elem? (l ++ a ∷ []) j ≡ some b
      → (get_elem? l j ≡ some b) ⊎ ((a ≡ b) × (j ≡ length l))
  old_or_last [] a b zero e = inr (some-injective a b e, refl)
  old_or_last [] a b (suc j) e = absurd (some-ne-none b (sym e))
  old_or_last (x ∷ xs) a b zero e = inl e
  old_or_last (x ∷ xs) a b (suc j) e = ⊎_elim (λ t. inl t) (λ t. inr (t.0, omega (arith, t.1))) (old_or_last xs a b j e)

  pub home_of_replicate : (n k : ℕ) (a : A) → k < n → get_elem? (map some (replicate n a)) k ≡ some (some a)
  home_of_replicate zero k a lt = absurd (omega (arith, lt))
  home_of_replicate (suc n) zero a lt = refl
  home_of_replicate (suc n) (suc k) a lt = home_of_replicate n k a (omega (arith, lt))
