-- Properties of all keys of a list, and ascending lists.
use Rattle.std.proofs.Common.{◌≡◌, ℕ, ◌+◌, ◌<◌, ◌≤◌, Bool, true, false, ◌==◌, nat_lt, if◌then◌else◌, List, [], ◌∷◌, ◌++◌, length, refl, arith}
use Rattle.std.specs.List.{AllByRecursion}
use Rattle.std.proofs.lemmas.Bool.Decides.{nat_tests}
use Rattle.key_sets.specs.Keys.{StrictlyAscends, with_key, without_key, AllBelow}

pub all_map : {X : Type 0} (P Q : X → Type 0) → ((x : X) → P x → Q x) → (xs : List X) → AllByRecursion P xs → AllByRecursion Q xs
all_map P Q f [] each = tt
all_map P Q f (x ∷ xs) each = (f x each.0, all_map P Q f xs each.1)

pub all_append : (P : ℕ → Type 0) (xs ys : List ℕ) → AllByRecursion P xs → AllByRecursion P ys → AllByRecursion P (xs ++ ys)
all_append P [] ys each each' = each'
all_append P (x ∷ xs) ys each each' = (each.0, all_append P xs ys each.1 each')

pub all_front : (P : ℕ → Type 0) (xs ys : List ℕ) → AllByRecursion P (xs ++ ys) → AllByRecursion P xs
all_front P [] ys each = tt
all_front P (x ∷ xs) ys each = (each.0, all_front P xs ys each.1)

pub all_back : (P : ℕ → Type 0) (xs ys : List ℕ) → AllByRecursion P (xs ++ ys) → AllByRecursion P ys
all_back P [] ys each = each
all_back P (x ∷ xs) ys each = all_back P xs ys each.1

pub all_at : (P : ℕ → Type 0) (xs : List ℕ) (k : ℕ) (ys : List ℕ) → AllByRecursion P (xs ++ k ∷ ys) → P k
all_at P xs k ys each = (all_back P xs (k ∷ ys) each).0

pub all_with : (P : ℕ → Type 0) (key : ℕ) (xs : List ℕ) → P key → AllByRecursion P xs → AllByRecursion P (with_key key xs)
all_with P key [] here each = (here, tt)
all_with P key (x ∷ xs) here each = insertion (nat_lt key x) (key == x) (all_with P key xs here each.1) where
  insertion : (first same : Bool) → AllByRecursion P (with_key key xs) → AllByRecursion P (if first then key ∷ x ∷ xs else (if same then x ∷ xs else x ∷ with_key key xs))
  insertion true same rest = (here, each)
  insertion false true rest = each
  insertion false false rest = (each.0, rest)

pub all_without : (P : ℕ → Type 0) (key : ℕ) (xs : List ℕ) → AllByRecursion P xs → AllByRecursion P (without_key key xs)
all_without P key [] each = tt
all_without P key (x ∷ xs) each = insertion (key == x) (all_without P key xs each.1) where
  insertion : (same : Bool) → AllByRecursion P (without_key key xs) → AllByRecursion P (if same then xs else x ∷ without_key key xs)
  insertion true rest = each.1
  insertion false rest = (each.0, rest)

pub all_above : (m n : ℕ) (xs : List ℕ) → m < n → AllByRecursion (λ y. n < y) xs → AllByRecursion (λ y. m < y) xs
all_above m n xs less each = all_map (λ y. n < y) (λ y. m < y) (λ y above. omega (arith, above)) xs each

-- the parts of an ascending list
pub ascends_front : (xs ys : List ℕ) → StrictlyAscends (xs ++ ys) → StrictlyAscends xs
ascends_front [] ys up = tt
ascends_front (x ∷ xs) ys up = (all_front (λ y. x < y) xs ys up.0, ascends_front xs ys up.1)

pub ascends_back : (xs ys : List ℕ) → StrictlyAscends (xs ++ ys) → StrictlyAscends ys
ascends_back [] ys up = up
ascends_back (x ∷ xs) ys up = ascends_back xs ys up.1

pub ascends_after : (xs : List ℕ) (k : ℕ) (ys : List ℕ) → StrictlyAscends (xs ++ k ∷ ys) → StrictlyAscends ys
ascends_after xs k ys up = (ascends_back xs (k ∷ ys) up).1

pub all_below_key : (xs : List ℕ) (k : ℕ) (ys : List ℕ) → StrictlyAscends (xs ++ k ∷ ys) → AllByRecursion (λ x. x < k) xs
all_below_key [] k ys up = tt
all_below_key (x ∷ xs) k ys up = (all_at (λ y. x < y) xs k ys up.0, all_below_key xs k ys up.1)

pub all_above_key : (xs : List ℕ) (k : ℕ) (ys : List ℕ) → StrictlyAscends (xs ++ k ∷ ys) → AllByRecursion (λ y. k < y) ys
all_above_key xs k ys up = (ascends_back xs (k ∷ ys) up).0

-- ascending lists built from others
pub ascends_both : (low high : List ℕ) → StrictlyAscends low → StrictlyAscends high → AllBelow low high → StrictlyAscends (low ++ high)
ascends_both [] high up up' below = up'
ascends_both (x ∷ low) high up up' below = (all_append (λ y. x < y) low high up.0 below.0, ascends_both low high up.1 up' below.1)

pub ascends_with : (key : ℕ) (xs : List ℕ) → StrictlyAscends xs → StrictlyAscends (with_key key xs)
ascends_with key [] up = (tt, tt)
ascends_with key (x ∷ xs) up = insertion (nat_lt key x) (key == x) refl refl (ascends_with key xs up.1) where
  insertion : (first same : Bool) → nat_lt key x ≡ first → (key == x) ≡ same → StrictlyAscends (with_key key xs)
      → StrictlyAscends (if first then key ∷ x ∷ xs else (if same then x ∷ xs else x ∷ with_key key xs))
  insertion true same is is' rest = let less : key < x = grind (arith, nat_tests) in ((less, all_above key x xs less up.0), up)
  insertion false true is is' rest = up
  insertion false false is is' rest = (all_with (λ y. x < y) key xs (grind (arith, nat_tests)) up.0, rest)

pub ascends_without : (key : ℕ) (xs : List ℕ) → StrictlyAscends xs → StrictlyAscends (without_key key xs)
ascends_without key [] up = tt
ascends_without key (x ∷ xs) up = insertion (key == x) (ascends_without key xs up.1) where
  insertion : (same : Bool) → StrictlyAscends (without_key key xs) → StrictlyAscends (if same then xs else x ∷ without_key key xs)
  insertion true rest = up.1
  insertion false rest = (all_without (λ y. x < y) key xs up.0, rest)

-- an ascending list is no longer than the range of its keys
pub length_in_range : (limit least : ℕ) (xs : List ℕ) → StrictlyAscends xs → AllByRecursion (λ k. least ≤ k) xs → AllByRecursion (λ k. k < limit) xs → least ≤ limit → least + length xs ≤ limit
length_in_range limit least [] up above below le = omega arith
length_in_range limit least (x ∷ xs) up above below le =
    let a : least ≤ x = above.0 in
    let b : x < limit = below.0 in
    let rest = length_in_range limit (x + 1) xs up.1 (all_map (λ k. x < k) (λ k. x + 1 ≤ k) (λ k less. omega arith) xs up.0) below.1 (omega arith) in
    omega arith
