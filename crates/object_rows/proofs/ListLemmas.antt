-- Lists that meet one another.
use Rattle.std.proofs.Common.{◌≡◌, ℕ, ◌<◌, ◌-◌, Bool, true, false, ◌==◌, ◌||◌, List, [], ◌∷◌, ◌++◌, length, take, drop, refl, ap, arith, length-append}
use Rattle.std.proofs.lemmas.List.{take_at, drop_at}
use Rattle.key_sets.specs.Keys.{has}
use Rattle.seq_objects.specs.Pieces.{AllMeet}

pub meets_length : {A B : Type 0} (R : A → B → Type 0) (xs : List A) (ys : List B) → AllMeet R xs ys → length ys ≡ length xs
meets_length R [] [] m = refl
meets_length R [] (y ∷ ys) m = absurd m
meets_length R (x ∷ xs) [] m = absurd m
meets_length R (x ∷ xs) (y ∷ ys) m = omega (arith, meets_length R xs ys m.1)

pub meets_so : {A B : Type 0} (R S : A → B → Type 0) → ((x : A) (y : B) → R x y → S x y) → (xs : List A) (ys : List B) → AllMeet R xs ys → AllMeet S xs ys
meets_so R S f [] [] m = tt
meets_so R S f [] (y ∷ ys) m = absurd m
meets_so R S f (x ∷ xs) [] m = absurd m
meets_so R S f (x ∷ xs) (y ∷ ys) m = (f x y m.0, meets_so R S f xs ys m.1)

-- the last of a list meets the last of the other, and the fronts meet
pub record LastMeets {A B : Type 0} (R : A → B → Type 0) (xs : List A) (x : A) (ys : List B) : Type 0 where
  pub front : List B
  pub last : B
  pub is : ys ≡ front ++ last ∷ []
  pub fronts : AllMeet R xs front
  pub lasts : R x last

pub last_meets : {A B : Type 0} (R : A → B → Type 0) (xs : List A) (x : A) (ys : List B) → AllMeet R (xs ++ x ∷ []) ys → LastMeets R xs x ys
last_meets R [] x [] m = absurd m
last_meets R [] x (y ∷ []) m = record { front = []; last = y; is = refl; fronts = tt; lasts = m.0 }
last_meets R [] x (y ∷ z ∷ ys) m = absurd m.1
last_meets R (w ∷ xs) x [] m = absurd m
last_meets R (w ∷ xs) x (y ∷ ys) m =
    let rest = last_meets R xs x ys m.1 in
    record { front = y ∷ rest.front; last = rest.last; is = ap (λ l. y ∷ l) rest.is; fronts = (m.0, rest.fronts); lasts = rest.lasts }

-- membership in a list with one more number at its end
pub has_more : (q number : ℕ) (numbers : List ℕ) → has q (numbers ++ number ∷ []) ≡ (has q numbers || q == number)
has_more q number [] = step (q == number) where
  step : (b : Bool) → (b || false) ≡ b
  step true = refl
  step false = refl
has_more q number (n ∷ numbers) = step (q == n) (has_more q number numbers) where
  step : (b : Bool) → has q (numbers ++ number ∷ []) ≡ (has q numbers || q == number) → (b || has q (numbers ++ number ∷ [])) ≡ ((b || has q numbers) || q == number)
  step true is = refl
  step false is = is

-- a list without its last member, and that member
pub take_front : {A : Type 0} (xs : List A) (x : A) (n : ℕ) → n ≡ length (xs ++ x ∷ []) - 1 → take n (xs ++ x ∷ []) ≡ xs
take_front xs x n is = let long = length-append xs (x ∷ []) in take_at xs (x ∷ []) n (omega (arith, is, long))

pub drop_front : {A : Type 0} (xs : List A) (x : A) (n : ℕ) → n ≡ length (xs ++ x ∷ []) - 1 → drop n (xs ++ x ∷ []) ≡ x ∷ []
drop_front xs x n is = let long = length-append xs (x ∷ []) in drop_at xs (x ∷ []) n (omega (arith, is, long))

pub no_members : {A : Type 0} (xs : List A) → (0 < length xs → ⊥) → xs ≡ []
no_members [] none = refl
no_members (x ∷ xs) none = absurd (none (omega arith))
