-- An ascending set is the keys below a key, followed by the others.
use Rattle.std.proofs.Common.{◌≡◌, ℕ, ◌<◌, ◌≤◌, Bool, true, false, not, cond, nat_lt, List, [], ◌∷◌, ◌++◌, refl, ap, arith}
use Rattle.std.specs.List.{AllByRecursion}
use Rattle.std.proofs.lemmas.Bool.Decides.{nat_tests}
use Rattle.key_sets.specs.Keys.{StrictlyAscends, AllBelow}
use Rattle.key_sets.specs.Splits.{IsSplit, below, from}
use Rattle.key_sets.proofs.Filters.{all_filter, all_passed}
use Rattle.key_sets.proofs.KeyLemmas.Ascending.{all_map}

-- comparisons, and what they decide
pub is_less : (m n : ℕ) → nat_lt m n ≡ true → m < n
is_less m n is = grind (arith, nat_tests)

pub is_not_less : (m n : ℕ) → not (nat_lt m n) ≡ true → n ≤ m
is_not_less m n is = step (nat_lt m n) refl is where
  step : (t : Bool) → nat_lt m n ≡ t → not t ≡ true → n ≤ m
  step true test is = absurd (cc)
  step false test is = grind (arith, nat_tests)

pub all_below : (b : ℕ) (set : List ℕ) → AllByRecursion (λ k. k < b) (below b set)
all_below b set = all_passed (λ k. k < b) (λ k. nat_lt k b) (λ k is. is_less k b is) set

pub all_from : (b : ℕ) (set : List ℕ) → AllByRecursion (λ k. b ≤ k) (from b set)
all_from b set = all_passed (λ k. b ≤ k) (λ k. not (nat_lt k b)) (λ k is. is_not_less k b is) set

-- an ascending set is the keys below a key, followed by the others
pub none_below : (b : ℕ) (set : List ℕ) → AllByRecursion (λ k. b ≤ k) set
    → (below b set ≡ []) × (from b set ≡ set)
none_below b [] up = (refl, refl)
none_below b (x ∷ set) up =
    let test : nat_lt x b ≡ false = grind (arith, nat_tests, up.0) in
    let rest = none_below b set up.1 in
    rw test (rest.0, ap (λ zs. x ∷ zs) rest.1)

pub above_too : (b x : ℕ) (set : List ℕ) → b ≤ x → AllByRecursion (λ k. x < k) set
    → AllByRecursion (λ k. b ≤ k) set
above_too b x [] le each = tt
above_too b x (y ∷ set) le each = (omega (arith, le, each.0), above_too b x set le each.1)

pub both_sides : (b : ℕ) (set : List ℕ) → StrictlyAscends set → set ≡ below b set ++ from b set
both_sides b [] up = refl
both_sides b (x ∷ set) up = step (nat_lt x b) refl (both_sides b set up.1) where
  step : (t : Bool) → nat_lt x b ≡ t → set ≡ below b set ++ from b set
      → x ∷ set ≡ cond t (x ∷ below b set) (below b set) ++ cond (not t) (x ∷ from b set) (from b set)
  step true is rest = ap (λ zs. x ∷ zs) rest
  step false is rest = let none = none_below b set (above_too b x set (grind (arith, nat_tests)) up.0) in rw (none.0, none.1) refl

pub ascends_from : (b : ℕ) (set : List ℕ) → StrictlyAscends set → StrictlyAscends (from b set)
ascends_from b [] up = tt
ascends_from b (x ∷ set) up = step (not (nat_lt x b)) (ascends_from b set up.1) where
  step : (t : Bool) → StrictlyAscends (from b set)
      → StrictlyAscends (cond t (x ∷ from b set) (from b set))
  step true rest = (all_filter (λ k. x < k) (λ k. not (nat_lt k b)) set up.0, rest)
  step false rest = rest

-- the two sides of a cut at a key are the keys below it and the others
sides_of : (key : ℕ) (low high : List ℕ) → AllByRecursion (λ k. k < key) low
    → AllByRecursion (λ k. key ≤ k) high
    → (below key (low ++ high) ≡ low) × (from key (low ++ high) ≡ high)
sides_of key [] high down up = none_below key high up
sides_of key (x ∷ low) high down up =
    let test : nat_lt x key ≡ true = grind (arith, nat_tests, down.0) in
    let rest = sides_of key low high down.1 up in
    rw test (ap (λ zs. x ∷ zs) rest.0, rest.1)

pub split_sides : (key : ℕ) (whole low high : List ℕ) → IsSplit key whole low high
    → (below key whole ≡ low) × (from key whole ≡ high)
split_sides key whole low high cut = rw cut.is (sides_of key low high cut.below cut.above)

-- the keys of the low side are below those of the high side
below_all : (n key : ℕ) (high : List ℕ) → n < key → AllByRecursion (λ k. key ≤ k) high → AllByRecursion (λ k. n < k) high
below_all n key high less above = all_map (λ k. key ≤ k) (λ k. n < k) (λ k le. omega (arith, less, le)) high above

pub sides_apart : (key : ℕ) (whole low high : List ℕ) → IsSplit key whole low high → AllBelow low high
sides_apart key whole low high cut = all_map (λ k. k < key) (λ k. AllByRecursion (λ j. k < j) high) (λ k less. below_all k key high less cut.above) low cut.below
