-- Each sixteenth item.
use Rattle.std.proofs.Common.{◌≡◌, ℕ, zero, suc, ◌+◌, ◌-◌, ◌*◌, ◌/◌, ◌%◌, ◌<◌, ◌≤◌, List, [], ◌∷◌, ◌++◌, length, take, drop, get_or, refl, ap, arith}
use Rattle.batched_queue.specs.Code.Stripes.{every}

-- the place of the next item of a stripe behind n items, and how many of these items are of the stripe
abbrev pub later : ℕ → ℕ → ℕ
later place zero = place
later zero (suc n) = later 15 n
later (suc place) (suc n) = later place n

abbrev pub times : ℕ → ℕ → ℕ
times place zero = 0
times zero (suc n) = suc (times 15 n)
times (suc place) (suc n) = times place n

-- of two lists, one after another
pub every_append : (place : ℕ) (xs ys : List ℕ) → every place (xs ++ ys) ≡ every place xs ++ every (later place (length xs)) ys
every_append place [] ys = refl
every_append zero (x ∷ xs) ys = ap (λ rest. x ∷ rest) (every_append 15 xs ys)
every_append (suc place) (x ∷ xs) ys = every_append place xs ys

-- the number of items found
pub every_length : (place : ℕ) (xs : List ℕ) → length (every place xs) ≡ times place (length xs)
every_length place [] = refl
every_length zero (x ∷ xs) = ap suc (every_length 15 xs)
every_length (suc place) (x ∷ xs) = every_length place xs

-- of a list without its first n items, and of its first n items
pub every_drop : (place n : ℕ) (xs : List ℕ) → n ≤ length xs → every (later place n) (drop n xs) ≡ drop (times place n) (every place xs)
every_drop place zero xs le = refl
every_drop place (suc n) [] le = absurd (omega arith)
every_drop zero (suc n) (x ∷ xs) le = every_drop 15 n xs (omega arith)
every_drop (suc place) (suc n) (x ∷ xs) le = every_drop place n xs (omega arith)

pub every_take : (place n : ℕ) (xs : List ℕ) → n ≤ length xs → every place (take n xs) ≡ take (times place n) (every place xs)
every_take place zero xs le = refl
every_take place (suc n) [] le = absurd (omega arith)
every_take zero (suc n) (x ∷ xs) le = ap (λ rest. x ∷ rest) (every_take 15 n xs (omega arith))
every_take (suc place) (suc n) (x ∷ xs) le = every_take place n xs (omega arith)

-- `later` and `times` by arithmetic
pub later_is : (place n : ℕ) → place < 16 → later place n ≡ (place + 16 - n % 16) % 16
later_is place zero h = omega arith
later_is zero (suc n) h = omega (arith, later_is 15 n (omega arith))
later_is (suc place) (suc n) h = omega (arith, later_is place n (omega arith))

pub times_is : (place n : ℕ) → place < 16 → times place n ≡ (n + 15 - place) / 16
times_is place zero h = omega arith
times_is zero (suc n) h = omega (arith, times_is 15 n (omega arith))
times_is (suc place) (suc n) h = omega (arith, times_is place n (omega arith))

-- item k of a stripe
pub every_get : (place k : ℕ) (xs : List ℕ) → get_or (every place xs) k 0 ≡ get_or xs (16 * k + place) 0
every_get place k [] = refl
every_get zero zero (x ∷ xs) = refl
every_get zero (suc k) (x ∷ xs) =
    let e : 16 * suc k + 0 ≡ suc (16 * k + 15) = omega arith in
    rw e (every_get 15 k xs)
every_get (suc place) k (x ∷ xs) =
    let e : 16 * k + suc place ≡ suc (16 * k + place) = omega arith in
    rw e (every_get place k xs)

-- a stripe begins where its first item stands, if it has one
pub every_from : (place : ℕ) (xs : List ℕ) → every place xs ≡ every 0 (drop place xs)
every_from zero xs = refl
every_from (suc place) [] = refl
every_from (suc place) (x ∷ xs) = every_from place xs

pub every_beyond : (place : ℕ) (xs : List ℕ) → length xs ≤ place → every place xs ≡ []
every_beyond place [] le = refl
every_beyond zero (x ∷ xs) le = absurd (omega arith)
every_beyond (suc place) (x ∷ xs) le = every_beyond place xs (omega arith)

-- what is left of a stripe at one of its items
pub every_next : (at : ℕ) (xs : List ℕ) → at < length xs
    → every 0 (drop at xs) ≡ get_or xs at 0 ∷ every 0 (drop (at + 16) xs)
every_next at [] less = absurd (omega arith)
every_next zero (x ∷ xs) less = ap (λ rest. x ∷ rest) (every_from 15 xs)
every_next (suc at) (x ∷ xs) less =
    let e : suc at + 16 ≡ suc (at + 16) = omega arith in
    rw e (every_next at xs (omega arith))
