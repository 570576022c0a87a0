-- Successive cuts of entries at keys.
use Rattle.std.proofs.Common.{◌≡◌, ℕ, ◌<◌, inl, inr, Bool, true, false, not, nat_lt, if◌then◌else◌, List, [], ◌∷◌, ◌++◌, refl, ap, ap₂, sym, ◌∙◌, arith}
use Rattle.std.specs.List.{AllByRecursion}
use Rattle.std.proofs.lemmas.Bool.Decides.{nat_tests}
use Rattle.std.proofs.lemmas.Bool.{cases_lt}
use Rattle.keyed_pieces.specs.Ranges.{below, from, ranges}

-- cutting at two keys, one after the other
below_twice : {E : Type 0} (at : E → ℕ) (a b : ℕ) (entries : List E) → a < b → below at a (below at b entries) ≡ below at a entries
below_twice at a b [] less = refl
below_twice at a b (e ∷ entries) less = elim (cases_lt (at e) b) [
  | inl under ↦
      let test : nat_lt (at e) b ≡ true = grind (arith, nat_tests) in
      rw test (ap (λ rest. if nat_lt (at e) a then e ∷ rest else rest) (below_twice at a b entries less))
  | inr over ↦
      let test : nat_lt (at e) b ≡ false = grind (arith, nat_tests) in
      let test' : nat_lt (at e) a ≡ false = grind (arith, nat_tests, over, less) in
      rw (test, test') (below_twice at a b entries less)
]

from_twice : {E : Type 0} (at : E → ℕ) (a b : ℕ) (entries : List E) → a < b → from at b (from at a entries) ≡ from at b entries
from_twice at a b [] less = refl
from_twice at a b (e ∷ entries) less = elim (cases_lt (at e) a) [
  | inl under ↦
      let test : nat_lt (at e) a ≡ true = grind (arith, nat_tests) in
      let test' : nat_lt (at e) b ≡ true = grind (arith, nat_tests, under, less) in
      rw (test, test') (from_twice at a b entries less)
  | inr over ↦
      let test : nat_lt (at e) a ≡ false = grind (arith, nat_tests) in
      rw test (ap (λ rest. if not (nat_lt (at e) b) then e ∷ rest else rest) (from_twice at a b entries less))
]

between : {E : Type 0} (at : E → ℕ) (a b : ℕ) (entries : List E) → from at a (below at b entries) ≡ below at b (from at a entries)
between at a b [] = refl
between {E} at a b (e ∷ entries) = step (nat_lt (at e) b) refl (nat_lt (at e) a) refl (between at a b entries) where
  step : (t : Bool) → nat_lt (at e) b ≡ t → (u : Bool) → nat_lt (at e) a ≡ u → from at a (below at b entries) ≡ below at b (from at a entries)
      → from at a (if t then e ∷ below at b entries else below at b entries) ≡ below at b (if not u then e ∷ from at a entries else from at a entries)
  step true is true is' rest = rw is' rest
  step true is false is' rest = rw (is', is) (ap (λ es. e ∷ es) rest)
  step false is true is' rest = rest
  step false is false is' rest = rw is rest

-- the ranges of all entries are the ranges below a start, followed by those from it on
pub ranges_apart : {E : Type 0} (at : E → ℕ) (lows : List ℕ) (b : ℕ) (highs : List ℕ) (entries : List E) → AllByRecursion (λ a. a < b) lows
    → ranges at (lows ++ b ∷ highs) entries ≡ ranges at lows (below at b entries) ++ ranges at highs (from at b entries)
ranges_apart at [] b highs entries less = refl
ranges_apart at (a ∷ lows) b highs entries less =
    ap (λ rest. below at a entries ∷ rest) (ranges_apart at lows b highs (from at a entries) less.1)
    ∙ ap₂ (λ first rest. first ∷ (rest ++ ranges at highs (from at b (from at a entries)))) (sym (below_twice at a b entries less.0)) (ap (ranges at lows) (sym (between at a b entries)))
    ∙ ap (λ es. below at a (below at b entries) ∷ (ranges at lows (from at a (below at b entries)) ++ ranges at highs es)) (from_twice at a b entries less.0)
