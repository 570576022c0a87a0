-- The walk over the rows, with the ticks that are taken.
use Rattle.std.specs.Prelude.{◌≡◌, ℕ, ◌+◌, ◌<◌, Bool, true, false, List, [], ◌∷◌, length, slice_index_or, slice_set}
use Rattle.batch_history.specs.declared.row.Row.{Row}

-- the row is that of the leaf, has a worker below the number of workers, and starts before it ends
pub record IsRowOf (workers leaf : ℕ) (row : Row) : Type 0 where
  pub leaf_is : row.leaf ≡ leaf
  pub among : row.worker < workers
  pub starts_first : row.start < row.end

-- the tick is one of the ticks, and is not taken
abbrev pub IsFree : List Bool → ℕ → Type 0
IsFree taken tick = (tick < length taken) × (slice_index_or taken tick true ≡ false)

-- the ticks, with this one taken
abbrev pub with_taken : List Bool → ℕ → List Bool
with_taken taken tick = slice_set taken tick true

-- each tick is taken
abbrev pub AllTaken : List Bool → Type 0
AllTaken taken = (tick : ℕ) → tick < length taken → slice_index_or taken tick true ≡ true

-- The rows are those of the leaves from `leaf` on, and take all ticks that are left, each once.
abbrev pub RowsFrom : ℕ → ℕ → List Bool → List Row → Type 0
RowsFrom workers leaf taken [] = AllTaken taken
RowsFrom workers leaf taken (row ∷ rows) =
    IsRowOf workers leaf row × IsFree taken row.start × IsFree (with_taken taken row.start) row.end
    × RowsFrom workers (leaf + 1) (with_taken (with_taken taken row.start) row.end) rows
