use Rattle.std.proofs.Common.{◌≡◌, length}
use Rattle.tree23.specs.SideBySide.{in_order, AreTrees}
use Rattle.tree23.proofs.trees.join.join_many.Given as goal

abbrev pub invariant-loop-trees : goal.invariant-loop-trees
invariant-loop-trees l = record {
  trees_are : AreTrees l.trees;
  keys_are : in_order l.trees ≡ in_order l.fn.trees;
}

abbrev pub decreases-loop-trees : goal.decreases-loop-trees
decreases-loop-trees l = length l.trees.entries.items
