use Rattle.std.proofs.Common.{◌≡◌, ◌++◌, ◌∷◌, ◌≤◌, length}
use Rattle.tree_nodes.specs.Nodes.{keys, IsRooted}
use Rattle.tree23.specs.SideBySide.{in_order, AreTrees}
use Rattle.tree_forest.proofs.forest.compact.merge_lower.Given as goal

abbrev pub invariant-loop-lower : goal.invariant-loop-lower
invariant-loop-lower l = record {
  trees : AreTrees l.trees;
  rooted : IsRooted l.merged.rooted;
  count : length l.trees.entries.items ≤ length l.fn.trees.entries.items;
  keys_are : in_order l.trees ++ l.merged.key ∷ keys l.merged.rooted.tree ≡ in_order l.fn.trees ++ l.fn.entry.key ∷ keys l.fn.entry.rooted.tree;
}

abbrev pub decreases-loop-lower : goal.decreases-loop-lower
decreases-loop-lower l = length l.trees.entries.items
