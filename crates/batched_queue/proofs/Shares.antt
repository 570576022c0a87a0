-- The list that stripes make, and the stripes of a list.
use Rattle.std.proofs.Common.{◌≡◌, ℕ, ◌+◌, ◌-◌, ◌*◌, ◌/◌, ◌%◌, ◌<◌, ◌≤◌, List, [], ◌++◌, length, take, drop, get_or, refl, ap, sym, ◌∙◌, arith}
use Rattle.std.proofs.lemmas.List.FromFn.{fill_by_all, length-map-range_with_len, get_or-map-range_with_len}
use Rattle.batched_queue.specs.Code.Stripes.{items_of, every, place_in, stripe, count_in}
use Rattle.batched_queue.proofs.Every.{later, times, every_append, every_length, every_drop, every_take, later_is, times_is, every_get}

place_later : (j first n : ℕ) → j < 16 → later (place_in j first) n ≡ place_in j (first + n)
place_later j first n less =
    let low : place_in j first < 16 = omega arith in
    later_is (place_in j first) n low ∙ (let e : ((j + 16 - first % 16) % 16 + 16 - n % 16) % 16 ≡ (j + 16 - (first + n) % 16) % 16 = omega arith in e)

counted : (j first n : ℕ) → times (place_in j first) n ≡ count_in first j n
counted j first n = let low : place_in j first < 16 = omega arith in times_is (place_in j first) n low

-- the oldest stripe counts modulo 16
pub place_round : (j first : ℕ) → place_in j (first % 16) ≡ place_in j first
place_round j first = omega arith

pub stripe_length : (first j : ℕ) (xs : List ℕ) → length (stripe first j xs) ≡ count_in first j (length xs)
stripe_length first j xs = every_length (place_in j first) xs ∙ counted j first (length xs)

-- a stripe with what is put behind it is a stripe of all
pub stripe_append : (first j : ℕ) (xs ys : List ℕ) → j < 16
    → stripe first j xs ++ stripe (first + length xs) j ys ≡ stripe first j (xs ++ ys)
stripe_append first j xs ys less = sym (every_append (place_in j first) xs ys ∙ ap (λ place. every (place_in j first) xs ++ every place ys) (place_later j first (length xs) less))

-- a stripe without its share of the first n items, and this share
pub stripe_drop : (first j n : ℕ) (xs : List ℕ) → j < 16 → n ≤ length xs
    → drop (count_in first j n) (stripe first j xs) ≡ stripe (first + n) j (drop n xs)
stripe_drop first j n xs less le =
    ap (λ m. drop m (stripe first j xs)) (sym (counted j first n))
    ∙ sym (every_drop (place_in j first) n xs le) ∙ ap (λ place. every place (drop n xs)) (place_later j first n less)

pub stripe_take : (first j n : ℕ) (xs : List ℕ) → n ≤ length xs
    → take (count_in first j n) (stripe first j xs) ≡ stripe first j (take n xs)
stripe_take first j n xs le =
    ap (λ m. take m (stripe first j xs)) (sym (counted j first n)) ∙ sym (every_take (place_in j first) n xs le)

-- item p stands in its stripe at place p / 16
pub item_at : (first p : ℕ) (xs : List ℕ)
    → get_or (stripe first ((first + p) % 16) xs) (p / 16) 0 ≡ get_or xs p 0
item_at first p xs =
    let place : place_in ((first + p) % 16) first ≡ p % 16 = omega arith in
    let whole : 16 * (p / 16) + p % 16 ≡ p = omega arith in
    ap (λ k. get_or (every k xs) (p / 16) 0) place ∙ every_get (p % 16) (p / 16) xs ∙ ap (λ k. get_or xs k 0) whole

pub items_length : (stripes : List (List ℕ)) (first count : ℕ) → length (items_of stripes first count) ≡ count
items_length stripes first count = length-map-range_with_len (λ p. get_or (get_or stripes ((first + p) % 16) []) (p / 16) 0) 0 count

items_get : (stripes : List (List ℕ)) (first count p : ℕ) → p < count
    → get_or (items_of stripes first count) p 0 ≡ get_or (get_or stripes ((first + p) % 16) []) (p / 16) 0
items_get stripes first count p less = get_or-map-range_with_len (λ p. get_or (get_or stripes ((first + p) % 16) []) (p / 16) 0) 0 count p p 0 less (omega arith)

within : (first j k count : ℕ) → k < count_in first j count → 16 * k + place_in j first < count
within first j k count less = omega (arith, less)

of_stripe : (first j k : ℕ) → j < 16 → (first + (16 * k + place_in j first)) % 16 ≡ j
of_stripe first j k low = omega (arith, low)

height : (first j k : ℕ) → (16 * k + place_in j first) / 16 ≡ k
height first j k = omega arith

item_in : (stripes : List (List ℕ)) (first count j k : ℕ) → j < 16 → k < count_in first j count
    → get_or (get_or stripes j []) k 0 ≡ get_or (items_of stripes first count) (16 * k + place_in j first) 0
item_in stripes first count j k low less =
    let p = 16 * k + place_in j first in
    sym (items_get stripes first count p (within first j k count less)
    ∙ ap (λ i. get_or (get_or stripes i []) (p / 16) 0) (of_stripe first j k low)
    ∙ ap (λ h. get_or (get_or stripes j []) h 0) (height first j k))

-- the stripes of the list that stripes make are these
pub stripe_of_items : (stripes : List (List ℕ)) (first count j : ℕ) → j < 16
    → length (get_or stripes j []) ≡ count_in first j count
    → stripe first j (items_of stripes first count) ≡ get_or stripes j []
stripe_of_items stripes first count j low long =
    let items = items_of stripes first count in
    let place = place_in j first in
    let n = count_in first j count in
    let whole = stripe_length first j items ∙ ap (count_in first j) (items_length stripes first count) in
    fill_by_all (λ k. get_or items (16 * k + place) 0) (stripe first j items) n 0 whole (λ k less. every_get place k items)
    ∙ sym (fill_by_all (λ k. get_or items (16 * k + place) 0) (get_or stripes j []) n 0 long (λ k less. item_in stripes first count j k low less))

-- stripes that are those of a list make the list
pub items_from : (stripes : List (List ℕ)) (first : ℕ) (items : List ℕ)
    → ((j : ℕ) → j < 16 → get_or stripes j [] ≡ stripe first j items)
    → items_of stripes first (length items) ≡ items
items_from stripes first items each =
    sym (fill_by_all (λ p. get_or (get_or stripes ((first + p) % 16) []) (p / 16) 0) items (length items) 0 refl
    (λ p less. sym (ap (λ s. get_or s (p / 16) 0) (each ((first + p) % 16) (omega arith)) ∙ item_at first p items)))
