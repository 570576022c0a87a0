-- Which slots of a closed table still hold a value.
use Rattle.std.specs.Prelude.{ℕ, ◌≡◌, ◌<◌, ◌≤◌, Bool, true, false, List, slice_index_or}

-- of `total` slots, those below `count` hold a value, and the others were taken out
abbrev pub HasSlotsBelow : List Bool → ℕ → ℕ → Type 0
HasSlotsBelow filled total count =
    ((k : ℕ) → k < count → slice_index_or filled k false ≡ true)
    × ((k : ℕ) → count ≤ k → k < total → slice_index_or filled k false ≡ false)
