-- Membership after an insertion or a removal, and the least greater key. Ascending sets with the same members are
-- equal.
use Rattle.std.proofs.Common.{◌≡◌, ℕ, ◌<◌, ◌≤◌, List, [], ◌∷◌, Bool, true, false, not, ◌&&◌, ◌||◌, ◌⊎◌, inl, inr, ◌==◌, nat_lt, if◌then◌else◌, length, Some, None, refl, sym, ap, ◌∙◌, arith}
use Rattle.std.specs.List.{AllByRecursion, find}
use Rattle.std.specs.declared.option.Option.{Option}
use Rattle.std.proofs.lemmas.Bool.{cases_order}
use Rattle.std.proofs.lemmas.Bool.Decides.{nat_tests}
use Rattle.key_sets.specs.Keys.{StrictlyAscends, has, with_key, without_key, least_above, IsLeastAbove}
use Rattle.key_sets.proofs.KeyLemmas.Ascending.{all_map, all_above}
use Rattle.key_sets.proofs.KeyLemmas.Beside.{has_none}

or_same : (b c : Bool) → (b || c) ≡ (b || (b || c))
or_same true c = refl
or_same false c = refl

or_turn : (b c d : Bool) → (b || (c || d)) ≡ (c || (b || d))
or_turn true true d = refl
or_turn true false d = refl
or_turn false c d = refl

pub has_with : (key q : ℕ) (set : List ℕ) → has q (with_key key set) ≡ ((q == key) || has q set)
has_with key q [] = refl
has_with key q (k ∷ set) = step (nat_lt key k) (key == k) refl (has_with key q set) where
  step : (first same : Bool) → (key == k) ≡ same → has q (with_key key set) ≡ ((q == key) || has q set)
      → has q (if first then key ∷ k ∷ set else (if same then k ∷ set else k ∷ with_key key set)) ≡ ((q == key) || ((q == k) || has q set))
  step true same is rest = refl
  step false true is rest = let one : key ≡ k = grind (arith, nat_tests) in rw one (or_same (q == k) (has q set))
  step false false is rest = rw rest (or_turn (q == k) (q == key) (has q set))

pub has_without : (key q : ℕ) (set : List ℕ) → StrictlyAscends set → has q (without_key key set) ≡ (not (q == key) && has q set)
has_without key q [] up = none (q == key) where
  none : (b : Bool) → false ≡ (not b && false)
  none true = refl
  none false = refl
has_without key q (k ∷ set) up = step (key == k) (q == key) (q == k) refl refl refl (has_without key q set up.1) where
  step : (same b c : Bool) → (key == k) ≡ same → (q == key) ≡ b → (q == k) ≡ c → has q (without_key key set) ≡ (not (q == key) && has q set)
      → has q (if same then set else k ∷ without_key key set) ≡ (not b && (c || has q set))
  step true true c is is' is'' rest = let one : q ≡ k = grind (arith, nat_tests) in has_none q set (rw one up.0)
  step true false true is is' is'' rest = absurd (grind (arith, nat_tests))
  step true false false is is' is'' rest = refl
  step false true true is is' is'' rest = absurd (grind (arith, nat_tests))
  step false true false is is' is'' rest = rw (is'', rest, is') refl
  step false false c is is' is'' rest = rw (is'', rest, is') refl

pub has_first : (k : ℕ) (set : List ℕ) → has k (k ∷ set) ≡ true
has_first k set = step (k == k) (grind (arith, nat_tests)) where
  step : (b : Bool) → b ≡ true → (b || has k set) ≡ true
  step true is = refl
  step false is = cc

-- a property of all keys, for a member
pub holds : (P : ℕ → Type 0) (q : ℕ) (set : List ℕ) → AllByRecursion P set → has q set ≡ true → P q
holds P q [] each there = absurd cc
holds P q (k ∷ set) each there = step (q == k) refl there (holds P q set each.1) where
  step : (b : Bool) → (q == k) ≡ b → (b || has q set) ≡ true → (has q set ≡ true → P q) → P q
  step true is there rest = let one : q ≡ k = grind (arith, nat_tests) in rw one each.0
  step false is there rest = rest there

pub next_is_least : (n : ℕ) (set : List ℕ) → StrictlyAscends set → IsLeastAbove n set (least_above n set)
next_is_least n [] up = λ key there. absurd cc
next_is_least n (x ∷ set) up = step (nat_lt n x) refl (next_is_least n set up.1) where
  at_least : (key : ℕ) → has key (x ∷ set) ≡ true → x ≤ key
  at_least key there = holds (λ k. x ≤ k) key (x ∷ set) (omega arith, all_map (λ k. x < k) (λ k. x ≤ k) (λ k less. omega (arith, less)) set up.0) there

  other : (key : ℕ) (b : Bool) → (key == x) ≡ b → (b || has key set) ≡ true → (key ≡ x) ⊎ (has key set ≡ true)
  other key true is there = inl (grind (arith, nat_tests))
  other key false is there = inr there

  later : (r : Option ℕ) → x ≤ n → IsLeastAbove n set r → IsLeastAbove n (x ∷ set) r
  later None low rest = λ key there. elim (other key (key == x) refl there) [
    | inl is ↦ omega (arith, is, low)
    | inr more ↦ rest key more
  ]
  later (Some y) low rest = (
    also (y == x) rest.0,
    rest.1,
    λ key there above. elim (other key (key == x) refl there) [
      | inl is ↦ absurd (omega (arith, is, low, above))
      | inr more ↦ rest.2 key more above
    ],
  ) where
    also : (b : Bool) → has y set ≡ true → (b || has y set) ≡ true
    also true there = refl
    also false there = there

  step : (b : Bool) → nat_lt n x ≡ b → IsLeastAbove n set (find (λ k. nat_lt n k) set)
      → IsLeastAbove n (x ∷ set) (if b then Some x else find (λ k. nat_lt n k) set)
  step true is rest = (has_first x set, grind (arith, nat_tests), λ key there above. at_least key there)
  step false is rest = later (find (λ k. nat_lt n k) set) (grind (arith, nat_tests)) rest

-- a set is not empty after an insertion
pub some_with_key : (key : ℕ) (set : List ℕ) → 0 < length (with_key key set)
some_with_key key [] = omega arith
some_with_key key (x ∷ set) = step (nat_lt key x) (key == x) where
  step : (first same : Bool)
      → 0 < length (if first then key ∷ x ∷ set else (if same then x ∷ set else x ∷ with_key key set))
  step true same = omega arith
  step false true = omega arith
  step false false = omega arith

-- ascending sets with the same members are equal
same_rest : (q x : ℕ) (xs ys : List ℕ) → AllByRecursion (λ k. x < k) xs
    → AllByRecursion (λ k. x < k) ys → has q (x ∷ xs) ≡ has q (x ∷ ys) → has q xs ≡ has q ys
same_rest q x xs ys above above' same = step (q == x) refl same where
  step : (here : Bool) → (q == x) ≡ here → (here || has q xs) ≡ (here || has q ys)
      → has q xs ≡ has q ys
  step true is both = let one : q ≡ x = grind (arith, nat_tests) in rw one (has_none x xs above ∙ sym (has_none x ys above'))
  step false is both = both

pub same_set : (xs ys : List ℕ) → StrictlyAscends xs → StrictlyAscends ys → ((q : ℕ)
    → has q xs ≡ has q ys) → xs ≡ ys
same_set [] [] up up' same = refl
same_set [] (y ∷ ys) up up' same = let no = same y in let yes = has_first y ys in absurd (cc)
same_set (x ∷ xs) [] up up' same = let no = same x in let yes = has_first x xs in absurd (cc)
same_set (x ∷ xs) (y ∷ ys) up up' same = elim (cases_order x y) [
  | inl one ↦
      let same' = rw (← one) at same in
      let above = rw (← one) at up'.0 in
      rw (← one) (ap (λ zs. x ∷ zs) (same_set xs ys up.1 up'.1 (λ q. same_rest q x xs ys up.0 above (same' q))))
  | inr (inl less) ↦ let no = same x ∙ has_none x (y ∷ ys) (less, all_above x y ys less up'.0) in let yes = has_first x xs in absurd (cc)
  | inr (inr more) ↦ let no = sym (same y) ∙ has_none y (x ∷ xs) (more, all_above y x xs more up.0) in let yes = has_first y ys in absurd (cc)
]
