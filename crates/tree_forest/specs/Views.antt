-- The model of a forest in contracts.
use Rattle.std.specs.Prelude.{ℕ, List}

-- the keys in order, and the number of trees
pub record ForestView : Type 0 where
  pub keys : List ℕ
  pub trees : ℕ

-- the most trees of a compacted forest
abbrev pub most_trees : ℕ
most_trees = 65
