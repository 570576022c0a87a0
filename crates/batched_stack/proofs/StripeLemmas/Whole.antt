-- From stripes to the list that they form, and back.
use Rattle.std.proofs.Common.{◌≡◌, ℕ, ◌+◌, ◌*◌, ◌/◌, ◌%◌, ◌<◌, List, [], length, get_or, refl, sym, ◌∙◌, ap, arith}
use Rattle.std.proofs.lemmas.List.FromFn.{fill_by_all, length-map-range_with_len, get_or-map-range_with_len}
use Rattle.batched_stack.specs.Stripes.{stripe_length, stripe, items_of}
use Rattle.batched_stack.proofs.StripeLemmas.Striped.{item_at}

pub length_items_of : (stripes : List (List ℕ)) (n : ℕ) → length (items_of stripes n) ≡ n
length_items_of stripes n = length-map-range_with_len (λ p. get_or (get_or stripes (p % 16) []) (p / 16) 0) 0 n

get_items_of : (stripes : List (List ℕ)) (n p : ℕ) → p < n
    → get_or (items_of stripes n) p 0 ≡ get_or (get_or stripes (p % 16) []) (p / 16) 0
get_items_of stripes n p less = get_or-map-range_with_len (λ p. get_or (get_or stripes (p % 16) []) (p / 16) 0) 0 n p p 0 less (omega arith)

within : (j k n : ℕ) → k < stripe_length j n → 16 * k + j < n
within j k n less = omega (arith, less)

place : (j k : ℕ) → j < 16 → (16 * k + j) % 16 ≡ j
place j k low = omega (arith, low)

height : (j k : ℕ) → j < 16 → (16 * k + j) / 16 ≡ k
height j k low = omega (arith, low)

item_in : (stripes : List (List ℕ)) (n j k : ℕ) → j < 16 → k < stripe_length j n
    → get_or (get_or stripes j []) k 0 ≡ get_or (items_of stripes n) (16 * k + j) 0
item_in stripes n j k low less =
    let at = get_items_of stripes n (16 * k + j) (within j k n less) in
    sym (at ∙ ap (λ i. get_or (get_or stripes i []) ((16 * k + j) / 16) 0) (place j k low) ∙ ap (λ h. get_or (get_or stripes j []) h 0) (height j k low))

-- the stripes of the list that given stripes form are these stripes
pub stripe_of_items : (stripes : List (List ℕ)) (n j : ℕ) → j < 16
    → length (get_or stripes j []) ≡ stripe_length j n
    → stripe j (items_of stripes n) ≡ get_or stripes j []
stripe_of_items stripes n j low long =
    let len = length_items_of stripes n in
    let same : stripe_length j (length (items_of stripes n)) ≡ stripe_length j n = ap (stripe_length j) len in
    sym (fill_by_all (λ i. get_or (items_of stripes n) (16 * i + j) 0) (get_or stripes j []) (stripe_length j (length (items_of stripes n))) 0 (long ∙ sym same) (λ k less. item_in stripes n j k low (rw same at less)))

-- the stripes of a list form that list
pub items_from : (stripes : List (List ℕ)) (items : List ℕ) → ((j : ℕ) → j < 16
    → get_or stripes j [] ≡ stripe j items) → items_of stripes (length items) ≡ items
items_from stripes items each =
    sym (fill_by_all (λ p. get_or (get_or stripes (p % 16) []) (p / 16) 0) items (length items) 0 refl (λ p less. sym (ap (λ s. get_or s (p / 16) 0) (each (p % 16) (omega arith)) ∙ item_at p items less)))
