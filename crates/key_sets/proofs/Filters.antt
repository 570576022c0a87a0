-- What filters keep, and properties of all elements of a list.
use Rattle.std.proofs.Common.{◌≡◌, ℕ, Bool, true, false, cond, ◌&&◌, if◌then◌else◌, List, [], ◌∷◌, filter, slice_get, Some, refl, ap}
use Rattle.std.specs.List.{AllByRecursion, find}

pub filter_where : {X : Type 0} (p q : X → Bool) (xs : List X) → AllByRecursion (λ x. p x ≡ q x) xs
    → filter p xs ≡ filter q xs
filter_where p q [] each = refl
filter_where p q (x ∷ xs) each = rw (each.0, filter_where p q xs each.1) refl

pub each_of : {X : Type 0} (P : X → Type 0) → ((x : X) → P x) → (xs : List X) → AllByRecursion P xs
each_of P f [] = tt
each_of P f (x ∷ xs) = (f x, each_of P f xs)

pub filter_all : {X : Type 0} (p : X → Bool) → ((x : X) → p x ≡ true) → (xs : List X)
    → filter p xs ≡ xs
filter_all p passes [] = refl
filter_all p passes (x ∷ xs) = rw (passes x) (ap (λ zs. x ∷ zs) (filter_all p passes xs))

pub filter_both : {X : Type 0} (p q : X → Bool) (xs : List X)
    → filter p (filter q xs) ≡ filter (λ x. q x && p x) xs
filter_both p q [] = refl
filter_both {X} p q (x ∷ xs) = step (q x) (filter_both p q xs) where
  step : (t : Bool) → filter p (filter q xs) ≡ filter (λ x. q x && p x) xs
      → filter p (cond t (x ∷ filter q xs) (filter q xs)) ≡ cond (t && p x) (x ∷ filter (λ x. q x && p x) xs) (filter (λ x. q x && p x) xs)
  step true rest = ap (λ zs. cond (p x) (x ∷ zs) zs) rest
  step false rest = rest

pub first_found : (p : ℕ → Bool) (xs : List ℕ) → slice_get (filter p xs) 0 ≡ find p xs
first_found p [] = refl
first_found p (x ∷ xs) = step (p x) (first_found p xs) where
  step : (t : Bool) → slice_get (filter p xs) 0 ≡ find p xs
      → slice_get (cond t (x ∷ filter p xs) (filter p xs)) 0 ≡ (if t then Some x else find p xs)
  step true rest = refl
  step false rest = rest

pub find_where : (p q : ℕ → Bool) → ((x : ℕ) → p x ≡ q x) → (xs : List ℕ) → find p xs ≡ find q xs
find_where p q same [] = refl
find_where p q same (x ∷ xs) = rw (same x, find_where p q same xs) refl

pub all_filter : {X : Type 0} (P : X → Type 0) (test : X → Bool) (xs : List X) → AllByRecursion P xs
    → AllByRecursion P (filter test xs)
all_filter P test [] each = tt
all_filter {X} P test (x ∷ xs) each = step (test x) (all_filter P test xs each.1) where
  step : (t : Bool) → AllByRecursion P (filter test xs)
      → AllByRecursion P (cond t (x ∷ filter test xs) (filter test xs))
  step true rest = (each.0, rest)
  step false rest = rest

-- if a test implies a property, all elements that pass the test have it
pub all_passed : {X : Type 0} (P : X → Type 0) (test : X → Bool) → ((x : X) → test x ≡ true → P x)
    → (xs : List X) → AllByRecursion P (filter test xs)
all_passed P test says [] = tt
all_passed {X} P test says (x ∷ xs) = step (test x) refl (all_passed P test says xs) where
  step : (t : Bool) → test x ≡ t → AllByRecursion P (filter test xs)
      → AllByRecursion P (cond t (x ∷ filter test xs) (filter test xs))
  step true is rest = (says x is, rest)
  step false is rest = rest
