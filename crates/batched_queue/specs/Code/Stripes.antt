-- The stripes of a queue. The oldest item is of stripe `first`, and each other is of the stripe after that of the item
-- before it, round robin.
use Rattle.std.specs.Prelude.{◌≡◌, ℕ, zero, suc, ◌+◌, ◌-◌, ◌/◌, ◌%◌, ◌<◌, List, [], ◌∷◌, length, map, slice_index, slice_index_or}
use Rattle.std.specs.List.{range_with_len}
use Rattle.std.specs.declared.alloc.Global.{Global}
use Rattle.std.specs.declared.collections.VecDeque.{VecDeque}

-- the items of each stripe
abbrev pub lists : List (VecDeque ℕ Global) → List (List ℕ)
lists stripes = map (λ stripe. stripe.items) stripes

-- the list that stripes make: item p stands in its stripe at place p / 16
abbrev pub items_of : List (List ℕ) → ℕ → ℕ → List ℕ
items_of stripes first count =
    map (λ p. slice_index (slice_index_or stripes ((first + p) % 16) []) (p / 16)) (range_with_len 0 count)

-- each sixteenth item of a list, from the item at a place on
abbrev pub every : ℕ → List ℕ → List ℕ
every place [] = []
every zero (item ∷ items) = item ∷ every 15 items
every (suc place) (item ∷ items) = every place items

-- the place of the first item of stripe j among items of which the oldest is of stripe `first`
abbrev pub place_in : ℕ → ℕ → ℕ
place_in j first = (j + 16 - first % 16) % 16

-- stripe j of such items
abbrev pub stripe : ℕ → ℕ → List ℕ → List ℕ
stripe first j items = every (place_in j first) items

-- how many of the first `count` such items are of stripe j
abbrev pub count_in : ℕ → ℕ → ℕ → ℕ
count_in first j count = (count + 15 - place_in j first) / 16

-- what a queue keeps: 16 stripes, each with its share of `count` items
pub record QueueInvariant (stripes : List (List ℕ)) (first count : ℕ) : Type 0 where
  pub sixteen : length stripes ≡ 16
  pub low : first < 16
  pub shares : (j : ℕ) → j < 16 → length (slice_index_or stripes j []) ≡ count_in first j count
