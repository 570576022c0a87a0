-- Items and stripes.
use Rattle.std.proofs.Common.{◌≡◌, ℕ, ◌+◌, ◌-◌, ◌*◌, ◌/◌, ◌%◌, ◌<◌, ◌≤◌, inl, inr, List, ◌++◌, length, take, get_or, refl, sym, ◌∙◌, arith, length-append, length-take-le}
use Rattle.std.proofs.lemmas.Bool.{cases_order}
use Rattle.std.proofs.Math.ListN.{get_or-append}
use Rattle.std.proofs.lemmas.List.{get_or-append-add, get_or-take}
use Rattle.std.proofs.lemmas.List.FromFn.{fill_by_all, length-map-range_with_len, get_or-map-range_with_len}
use Rattle.batched_stack.specs.Stripes.{stripe_length, stripe}

pub length_stripe : (j : ℕ) (xs : List ℕ) → length (stripe j xs) ≡ stripe_length j (length xs)
length_stripe j xs = length-map-range_with_len _ 0 (stripe_length j (length xs))

pub get_stripe : (j i p : ℕ) (xs : List ℕ) → i < stripe_length j (length xs) → p ≡ 16 * i + j
    → get_or (stripe j xs) i 0 ≡ get_or xs p 0
get_stripe j i p xs h e = rw e (get_or-map-range_with_len (λ i. get_or xs (16 * i + j) 0) 0 (stripe_length j (length xs)) i i 0 h (omega arith))

-- item p stands in stripe p % 16 at p / 16
pub item_at : (p : ℕ) (xs : List ℕ) → p < length xs
    → get_or (stripe (p % 16) xs) (p / 16) 0 ≡ get_or xs p 0
item_at p xs h = get_stripe (p % 16) (p / 16) p xs (omega arith) (omega arith)

-- the stripes of a list's prefix
front_length : (j m n : ℕ) → m ≤ n → stripe_length j m ≤ stripe_length j n
front_length j m n h = omega arith

in_front : (j m k : ℕ) → k < stripe_length j m → 16 * k + j < m
in_front j m k h = omega arith

pub stripe_take : (j m : ℕ) (xs : List ℕ) → m ≤ length xs
    → stripe j (take m xs) ≡ take (stripe_length j m) (stripe j xs)
stripe_take j m xs h =
    let lm : length (take m xs) ≡ m = length-take-le m xs h in
    let ls = length_stripe j xs in
    let le : stripe_length j m ≤ length (stripe j xs) = rw ls (front_length j m (length xs) h) in
    sym (fill_by_all (λ i. get_or (take m xs) (16 * i + j) 0) (take (stripe_length j m) (stripe j xs)) (stripe_length j (length (take m xs))) 0
    (rw lm (length-take-le (stripe_length j m) (stripe j xs) le))
    (λ k b.
    let b' : k < stripe_length j m = rw lm at b in
    let in_all : k < stripe_length j (length xs) = omega (arith, front_length j m (length xs) h) in
    get_or-take (stripe_length j m) (stripe j xs) k 0 b' ∙ get_stripe j k (16 * k + j) xs in_all refl ∙ sym (get_or-take m xs (16 * k + j) 0 (in_front j m k b'))))

pub both_lengths : (j n m : ℕ) → j < 16
    → stripe_length j n + stripe_length ((j + 16 - n % 16) % 16) m ≡ stripe_length j (n + m)
both_lengths j n m h = omega arith

later_place : (j n k : ℕ) → j < 16
    → 16 * (stripe_length j n + k) + j ≡ n + (16 * k + (j + 16 - n % 16) % 16)
later_place j n k h = omega arith

late : (j j' : ℕ) (xs ys : List ℕ) (k n : ℕ) → j < 16 → j' ≡ (j + 16 - length xs % 16) % 16
    → k ≡ stripe_length j (length xs) + n → n < stripe_length j' (length ys)
    → get_or (stripe j xs ++ stripe j' ys) k 0 ≡ get_or (xs ++ ys) (16 * k + j) 0
late j j' xs ys k n h e is b =
    let place : 16 * k + j ≡ length xs + (16 * n + j') = rw (is, e) (later_place j (length xs) n h) in
    let k_is : k ≡ length (stripe j xs) + n = rw (length_stripe j xs) is in
    rw (place, get_or-append-add xs ys (16 * n + j') 0) (rw k_is (get_or-append-add (stripe j xs) (stripe j' ys) n 0) ∙ get_stripe j' n (16 * n + j') ys b refl)

early : (j j' : ℕ) (xs ys : List ℕ) (k : ℕ) → k < stripe_length j (length xs)
    → get_or (stripe j xs ++ stripe j' ys) k 0 ≡ get_or (xs ++ ys) (16 * k + j) 0
early j j' xs ys k b =
    get_or-append (stripe j xs) (stripe j' ys) 0 k (rw (length_stripe j xs) b) ∙ get_stripe j k (16 * k + j) xs b refl ∙ sym (get_or-append xs ys 0 (16 * k + j) (in_front j (length xs) k b))

append_at : (j j' : ℕ) (xs ys : List ℕ) (k : ℕ) → j < 16 → j' ≡ (j + 16 - length xs % 16) % 16
    → k < stripe_length j (length xs + length ys)
    → get_or (stripe j xs ++ stripe j' ys) k 0 ≡ get_or (xs ++ ys) (16 * k + j) 0
append_at j j' xs ys k h e b =
    let more : stripe_length j (length xs) ≤ k → get_or (stripe j xs ++ stripe j' ys) k 0 ≡ get_or (xs ++ ys) (16 * k + j) 0 =
    λ le. late j j' xs ys k (k - stripe_length j (length xs)) h e (omega arith) (rw e (omega (arith, both_lengths j (length xs) (length ys) h))) in
    elim (cases_order k (stripe_length j (length xs))) [
      | inl same ↦ more (omega arith)
      | inr (inl less) ↦ early j j' xs ys k less
      | inr (inr above) ↦ more (omega arith)
    ]

-- the pushes to a stripe: every sixteenth, from its first one on
pub stripe_append : (j : ℕ) (xs ys : List ℕ) → j < 16
    → stripe j (xs ++ ys) ≡ stripe j xs ++ stripe ((j + 16 - length xs % 16) % 16) ys
stripe_append j xs ys h =
    let j' = (j + 16 - length xs % 16) % 16 in
    let lx = length_stripe j xs in
    let ly = length_stripe j' ys in
    let all = both_lengths j (length xs) (length ys) h in
    sym (fill_by_all (λ i. get_or (xs ++ ys) (16 * i + j) 0) (stripe j xs ++ stripe j' ys) (stripe_length j (length (xs ++ ys))) 0
    (rw (length-append (stripe j xs) (stripe j' ys), length-append xs ys, lx, ly) all)
    (λ k b. append_at j j' xs ys k h refl (rw length-append at b)))
