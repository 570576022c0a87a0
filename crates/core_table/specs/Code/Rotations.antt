-- Rotating a list, and removing a number from one at an index.
use Rattle.std.specs.Prelude.{ℕ, zero, suc, ◌≡◌, ◌<◌, List, ◌∷◌, ◌++◌, length, take, drop}
use Rattle.atomic_table.specs.Table.{turned}
use Rattle.table_rule.specs.declared.slot.Slot.{Slot}
use Rattle.table_rule.specs.Passes.{without_first}

-- the list after its head is moved to the back n times
abbrev pub rotated : ℕ → List (ℕ × Slot) → List (ℕ × Slot)
rotated zero xs = xs
rotated (suc n) xs = turned (rotated n xs)

-- xs has u at index i, and removing the first u from xs gives the list without index i
pub record IsFirstAt (xs : List ℕ) (u i : ℕ) : Type 0 where
  pub low : i < length xs
  pub split : xs ≡ take i xs ++ u ∷ drop (suc i) xs
  pub rest : without_first u xs ≡ take i xs ++ drop (suc i) xs
