-- Texts of the numbers of a range.
use Rattle.std.proofs.Common.{ℕ, zero, suc, ◌≡◌, ◌+◌, List, [], ◌∷◌, ◌++◌, ap, subst, ◌∙◌, arith, append-nil}
use Rattle.std.specs.List.{flat_map, range_with_len}
use Rattle.std.proofs.lemmas.Grind.{flat_map-append}

range_more : (a n j : ℕ) → a + n ≡ j → range_with_len a (n + 1) ≡ range_with_len a n ++ j ∷ []
range_more a zero j e = let same : a ≡ j = omega (arith, e) in ap (λ k. k ∷ []) same
range_more a (suc n) j e =
    let step : suc n + 1 ≡ suc (suc n) = omega arith in
    let one : n + 1 ≡ suc n = omega arith in
    let next : a + 1 + n ≡ j = omega (arith, e) in
    rw step (ap (λ l. a ∷ l) (subst (λ m. range_with_len (a + 1) m ≡ range_with_len (a + 1) n ++ j ∷ []) one (range_more (a + 1) n j next)))

-- one number more adds its text
pub flat_more : (line : ℕ → List ℕ) (n : ℕ) → flat_map line (range_with_len 0 (n + 1)) ≡ flat_map line (range_with_len 0 n) ++ line n
flat_more line n =
    let e : 0 + n ≡ n = omega arith in
    ap (flat_map line) (range_more 0 n n e) ∙ (flat_map-append line (range_with_len 0 n) (n ∷ []) ∙ ap (λ t. flat_map line (range_with_len 0 n) ++ t) (append-nil (line n)))
