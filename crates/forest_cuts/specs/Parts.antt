-- The keys of a list of forests.
use Rattle.std.specs.Prelude.{ℕ, List, map}
use Rattle.tree_forest.specs.Views.{ForestView}

-- the keys of each forest
abbrev pub keys_of_each : List ForestView → List (List ℕ)
keys_of_each forests = map (λ forest. forest.keys) forests
