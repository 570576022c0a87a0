-- Lists of two parts of the same length and one element more.
use Rattle.std.proofs.Common.{◌≡◌, ℕ, zero, suc, ◌+◌, ◌-◌, ◌<◌, ◌⊎◌, inl, inr, List, [], ◌∷◌, ◌++◌, length, map, Some, refl, ap, ◌∙◌, arith, length-append}
use Rattle.std.specs.Prelude.{slice_get}
use Rattle.std.specs.List.{range_with_len}
use Rattle.std.proofs.lemmas.Bool.{cases_lt}
use Rattle.std.proofs.lemmas.List.FromFn.{get_or-map-range_with_len, length-map-range_with_len}
use Rattle.std.proofs.lemmas.Option.{slice_get-get_or}

pub get_front : {A : Type 0} (xs ys : List A) (u : ℕ) → u < length xs → slice_get (xs ++ ys) u ≡ slice_get xs u
get_front [] ys u less = absurd (omega (arith, less))
get_front (x ∷ xs) ys zero less = refl
get_front (x ∷ xs) ys (suc u) less = get_front xs ys u (omega (arith, less))

get_back : {A : Type 0} (xs ys : List A) (k : ℕ) → slice_get (xs ++ ys) (length xs + k) ≡ slice_get ys k
get_back [] ys k = ap (slice_get ys) (omega arith)
get_back (x ∷ xs) ys k =
    let next : length (x ∷ xs) + k ≡ suc (length xs + k) = omega arith in
    ap (slice_get (x ∷ (xs ++ ys))) next ∙ get_back xs ys k

pub get_mapped : {A : Type 0} (f : ℕ → A) (n k : ℕ) → k < n → slice_get (map f (range_with_len 0 n)) k ≡ Some (f k)
get_mapped f n k less =
    let long = length-map-range_with_len f 0 n in
    slice_get-get_or (map f (range_with_len 0 n)) k (f 0) (omega (arith, long, less)) ∙ ap Some (get_or-map-range_with_len f 0 n k k (f 0) less (omega arith))

abbrev pub parts : {A : Type 0} → (ℕ → A) → (ℕ → A) → A → ℕ → List A
parts f g last n = map f (range_with_len 0 n) ++ map g (range_with_len 0 n) ++ last ∷ []

module _ {A : Type 0} (f g : ℕ → A) (last : A) (n : ℕ) where
  first_long : length (map f (range_with_len 0 n)) ≡ n
  first_long = length-map-range_with_len f 0 n

  both_long : length (map f (range_with_len 0 n) ++ map g (range_with_len 0 n)) ≡ n + n
  both_long =
      let all = length-append (map f (range_with_len 0 n)) (map g (range_with_len 0 n)) in
      let second = length-map-range_with_len g 0 n in
      let first = first_long in
      omega (arith, all, first, second)

  pub parts_long : length (parts f g last n) ≡ n + n + 1
  parts_long =
      let all = length-append (map f (range_with_len 0 n) ++ map g (range_with_len 0 n)) (last ∷ []) in
      let both = both_long in
      omega (arith, all, both)

  pub at_first : (k : ℕ) → k < n → slice_get (parts f g last n) k ≡ Some (f k)
  at_first k less =
      let xs = map f (range_with_len 0 n) in
      let ys = map g (range_with_len 0 n) in
      let both = both_long in
      let first = first_long in
      get_front (xs ++ ys) (last ∷ []) k (omega (arith, both, less)) ∙ get_front xs ys k (omega (arith, first, less)) ∙ get_mapped f n k less

  pub at_second : (k : ℕ) → k < n → slice_get (parts f g last n) (n + k) ≡ Some (g k)
  at_second k less =
      let xs = map f (range_with_len 0 n) in
      let ys = map g (range_with_len 0 n) in
      let both = both_long in
      let first = first_long in
      let place : n + k ≡ length xs + k = omega (arith, first) in
      get_front (xs ++ ys) (last ∷ []) (n + k) (omega (arith, both, less)) ∙ ap (slice_get (xs ++ ys)) place ∙ get_back xs ys k ∙ get_mapped g n k less

  pub at_last : slice_get (parts f g last n) (n + n) ≡ Some last
  at_last =
      let xs = map f (range_with_len 0 n) ++ map g (range_with_len 0 n) in
      let both = both_long in
      let place : n + n ≡ length xs + 0 = omega (arith, both) in
      ap (slice_get (xs ++ last ∷ [])) place ∙ get_back xs (last ∷ []) 0

-- where a place is
abbrev pub IsPlace : ℕ → ℕ → Type 0
IsPlace n u = (u < n) ⊎ (((k : ℕ) × (u ≡ n + k) × (k < n)) ⊎ (u ≡ n + n))

pub place : (n u : ℕ) → u < n + n + 1 → IsPlace n u
place n u below = elim (cases_lt u n) [
  | inl less ↦ inl less
  | inr most ↦ elim (cases_lt u (n + n)) [
    | inl less ↦ inr (inl (u - n, omega (arith, most), omega (arith, most, less)))
    | inr more ↦ inr (inr (omega (arith, more, below)))
  ]
]
