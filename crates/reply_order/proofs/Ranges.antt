-- A list that ascends and has the numbers of a range, mixed, is this range.
use Rattle.std.proofs.Common.{◌≡◌, ℕ, zero, suc, ◌+◌, ◌<◌, ◌≤◌, ◌==◌, List, [], ◌∷◌, length, get_or, cond, refl, ap, ◌∙◌, arith}
use Rattle.std.specs.Prelude.{sum_by, nat_lt}
use Rattle.std.specs.List.{range_with_len}
use Rattle.std.specs.List.Sorted.{IsPermutation, IsNonDecreasingBy}
use Rattle.std.proofs.lemmas.Bool.Decides.{nat_tests}
use Rattle.std.proofs.lemmas.List.Sums.{sum_by-cons}
use Rattle.std.proofs.lemmas.List.Sorted.{sum_by-IsPermutation, IsNonDecreasingBy-drop}

-- a function that is 0 at each element
none_of : (f : ℕ → ℕ) (xs : List ℕ) → ((k : ℕ) → k < length xs → f (get_or xs k 0) ≡ 0) → sum_by f xs ≡ 0
none_of f [] zeros = refl
none_of f (x ∷ xs) zeros =
    let here : f x ≡ 0 = zeros 0 (omega arith) in
    let rest : sum_by f xs ≡ 0 = none_of f xs (λ k less. zeros (suc k) (omega (arith, less))) in
    sum_by-cons f x xs ∙ omega (arith, here, rest)

-- and at each number from a on
none_from : (f : ℕ → ℕ) (a n : ℕ) → ((k : ℕ) → a ≤ k → f k ≡ 0) → sum_by f (range_with_len a n) ≡ 0
none_from f a zero zeros = refl
none_from f a (suc n) zeros =
    let here : f a ≡ 0 = zeros a (omega arith) in
    let rest : sum_by f (range_with_len (a + 1) n) ≡ 0 = none_from f (a + 1) n (λ k less. zeros k (omega (arith, less))) in
    sum_by-cons f a (range_with_len (a + 1) n) ∙ omega (arith, here, rest)

abbrev one_below : ℕ → ℕ → ℕ
one_below a k = cond (nat_lt k a) 1 0

abbrev one_at : ℕ → ℕ → ℕ
one_at a k = cond (k == a) 1 0

no_less : (a k : ℕ) → a ≤ k → one_below a k ≡ 0
no_less a k less = grind (arith, nat_tests)

less_than : (a k : ℕ) → one_below a k ≡ 0 → a ≤ k
less_than a k is = grind (arith, nat_tests)

at_itself : (a : ℕ) → one_at a a ≡ 1
at_itself a = grind (arith, nat_tests)

beyond : (a k : ℕ) → a < k → one_at a k ≡ 0
beyond a k less = grind (arith, nat_tests)

ranges : (a n : ℕ) (ys : List ℕ) → length ys ≡ n → IsNonDecreasingBy (λ (y : ℕ). y) ys
    → ((f : ℕ → ℕ) → sum_by f ys ≡ sum_by f (range_with_len a n)) → ys ≡ range_with_len a n
ranges a zero [] long up same = refl
ranges a zero (y ∷ ys) long up same = absurd (omega (arith, long))
ranges a (suc n) [] long up same = absurd (omega (arith, long))
ranges a (suc n) (y ∷ ys) long up same =
    let least : a ≤ y =
    less_than a y (let all = same (one_below a) in let none = none_from (one_below a) a (suc n) (no_less a) in
    let split = sum_by-cons (one_below a) y ys in omega (arith, all, none, split)) in
    let most : (a < y → ⊥) = (λ less.
    let none : sum_by (one_at a) (y ∷ ys) ≡ 0 = none_of (one_at a) (y ∷ ys) (λ k below.
    beyond a (get_or (y ∷ ys) k 0) (let from = up 0 k 0 (omega arith) below in omega (arith, from, less))) in
    let all = same (one_at a) in let own = at_itself a in
    let split = sum_by-cons (one_at a) a (range_with_len (a + 1) n) in omega (arith, none, all, own, split)) in
    let is : y ≡ a = omega (arith, least, most) in
    let rest : ys ≡ range_with_len (a + 1) n =
    ranges (a + 1) n ys (omega (arith, long)) (IsNonDecreasingBy-drop (λ (y : ℕ). y) 1 (y ∷ ys) up)
    (λ f. let all = same f in let one = sum_by-cons f y ys in let other = sum_by-cons f a (range_with_len (a + 1) n) in
    let here : f y ≡ f a = ap f is in omega (arith, all, one, other, here)) in
    cc

pub is_range : (n : ℕ) (ys : List ℕ) → length ys ≡ n → IsNonDecreasingBy (λ (y : ℕ). y) ys → IsPermutation (range_with_len 0 n) ys
    → ys ≡ range_with_len 0 n
is_range n ys long up mixed = ranges 0 n ys long up (λ f. sum_by-IsPermutation f (range_with_len 0 n) ys mixed)
