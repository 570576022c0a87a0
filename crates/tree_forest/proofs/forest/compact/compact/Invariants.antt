use Rattle.std.proofs.Common.{◌≡◌, ◌++◌, length, reverse}
use Rattle.tree23.specs.SideBySide.{entry_keys, in_order, AreTrees, AreKeyedTrees}
use Rattle.tree_forest.proofs.forest.compact.compact.Given as goal

abbrev pub invariant-loop-entry : goal.invariant-loop-entry
invariant-loop-entry l = record {
  compacted : AreTrees l.compacted;
  entries : AreKeyedTrees l.entries.items;
  keys_are : in_order l.compacted ++ entry_keys (reverse l.entries.items) ≡ in_order l.fn.trees;
}

abbrev pub decreases-loop-entry : goal.decreases-loop-entry
decreases-loop-entry l = length l.entries.items
