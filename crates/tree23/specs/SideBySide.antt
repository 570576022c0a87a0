-- Rows of trees, with a key between neighbours.
use Rattle.std.specs.Prelude.{List, ℕ, [], ◌∷◌, ◌++◌, reverse}
use Rattle.std.specs.List.{AllByRecursion}
use Rattle.tree23.specs.declared.trees.KeyedTree.{KeyedTree}
use Rattle.tree23.specs.declared.trees.Trees.{Trees}
use Rattle.tree_nodes.specs.Nodes.{keys, IsRooted}

-- the keys of entries: of each its own key, and then those of its tree
abbrev pub entry_keys : List KeyedTree → List ℕ
entry_keys [] = []
entry_keys (e ∷ entries) = e.key ∷ (keys e.rooted.tree ++ entry_keys entries)

-- the keys of a row in order: those of the first tree, then those of the entries
abbrev pub in_order : Trees → List ℕ
in_order trees = keys trees.front.tree ++ entry_keys trees.entries.items

-- the same for a row whose entries are in reverse order
abbrev pub in_reverse : Trees → List ℕ
in_reverse trees = keys trees.front.tree ++ entry_keys (reverse trees.entries.items)

-- the tree of each entry is balanced, and its stored height is its depth
abbrev pub AreKeyedTrees : List KeyedTree → Type 0
AreKeyedTrees entries = AllByRecursion (λ e. IsRooted e.rooted) entries

-- the same of all trees of a row: the first, and those of the entries
pub record AreTrees (trees : Trees) : Type 0 where
  pub front_is : IsRooted trees.front
  pub entries_are : AreKeyedTrees trees.entries.items
