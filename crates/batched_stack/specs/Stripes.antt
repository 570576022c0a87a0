-- The stripes of a stack. Its items are numbered from 0 at the bottom, and item p lies in stripe p % 16.
use Rattle.std.specs.Prelude.{ℕ, ◌+◌, ◌-◌, ◌*◌, ◌/◌, ◌%◌, List, [], length, map, slice_index, slice_index_or}
use Rattle.std.specs.List.{range_with_len}

-- what contracts see of a stack: its items, the top last, and the rooms of its 16 stripes
pub record StackView : Type 0 where
  pub items : List ℕ
  pub rooms : List ℕ

-- the number of the first n items that lie in stripe j, for j below 16
abbrev pub stripe_length : ℕ → ℕ → ℕ
stripe_length j n = (n + 15 - j) / 16

-- stripe j of a list: every sixteenth item, from item j on
abbrev pub stripe : ℕ → List ℕ → List ℕ
stripe j items =
    map (λ i. slice_index items (16 * i + j)) (range_with_len 0 (stripe_length j (length items)))

-- the first n items of the stack that the stripes form: item p stands in stripe p % 16, at index p / 16
abbrev pub items_of : List (List ℕ) → ℕ → List ℕ
items_of stripes n =
    map (λ p. slice_index (slice_index_or stripes (p % 16) []) (p / 16)) (range_with_len 0 n)
