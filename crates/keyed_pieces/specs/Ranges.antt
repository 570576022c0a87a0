-- Entries and operations divided into ranges of keys.
use Rattle.std.specs.Prelude.{ℕ, not, nat_lt, List, [], ◌∷◌, filter, flat_map, drop, slice_index_or, slice_set}
use Rattle.keyed_pieces.specs.Keyed.{after_each, replies_to_each}

-- the elements whose key is below `start`, and then those whose key is not
abbrev pub below : {X : Type 0} → (X → ℕ) → ℕ → List X → List X
below at start xs = filter (λ x. nat_lt (at x) start) xs

abbrev pub from : {X : Type 0} → (X → ℕ) → ℕ → List X → List X
from at start xs = filter (λ x. not (nat_lt (at x) start)) xs

-- the elements of each range, where `starts` are the first keys of all ranges but the first
abbrev pub ranges : {X : Type 0} → (X → ℕ) → List ℕ → List X → List (List X)
ranges at [] xs = xs ∷ []
ranges at (start ∷ starts) xs = below at start xs ∷ ranges at starts (from at start xs)

-- the concatenation of all lists
abbrev pub side_by_side : {X : Type 0} → List (List X) → List X
side_by_side lists = flat_map (λ list. list) lists

-- the entries of each range after its own operations
abbrev pub after_by_range : {E O : Type 0} → (List E → O → List E) → List (List E) → List (List O) → List (List E)
after_by_range after (entries ∷ rest) (operations ∷ others) = after_each after entries operations ∷ after_by_range after rest others
after_by_range after rest others = []

-- the replies of each range to its own operations
abbrev pub replies_by_range : {E O R : Type 0} → (List E → O → List E) → (List E → O → R) → List (List E) → List (List O) → List (List R)
replies_by_range after reply (entries ∷ rest) (operations ∷ others) = replies_to_each after reply entries operations ∷ replies_by_range after reply rest others
replies_by_range after reply rest others = []

-- the replies in the order of the operations: each gets the next reply of its group, or `none` if there is none left;
-- `groups` has the group of each operation
abbrev pub merged : {R : Type 0} → R → List ℕ → List (List R) → List R
merged none [] replies = []
merged none (group ∷ groups) replies =
    slice_index_or (slice_index_or replies group []) 0 none ∷ merged none groups (slice_set replies group (drop 1 (slice_index_or replies group [])))
