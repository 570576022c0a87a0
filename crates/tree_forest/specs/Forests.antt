-- The keys of a forest, and the number of its trees.
use Rattle.std.specs.Prelude.{ℕ, ◌+◌, ◌<◌, ◌^◌, List, length}
use Rattle.std.specs.List.{AllByRecursion}
use Rattle.tree23.specs.declared.trees.Trees.{Trees}
use Rattle.key_sets.specs.Keys.{StrictlyAscends}

-- a list that strictly ascends, of keys below 2 ^ 32
pub record IsKeySet (set : List ℕ) : Type 0 where
  pub ascends : StrictlyAscends set
  pub small : AllByRecursion (λ k. k < 2 ^ 32) set

-- the number of trees in a row: the first, and one for each entry
abbrev pub tree_count : Trees → ℕ
tree_count trees = length trees.entries.items + 1
