use Rattle.std.proofs.Common.{◌≡◌, ◌+◌, ◌≤◌, ◌++◌, length, reverse}
use Rattle.tree23.specs.SideBySide.{entry_keys, in_order, AreTrees, AreKeyedTrees}
use Rattle.tree_forest.proofs.forest.compact.append.Given as goal

abbrev pub invariant-loop-entry : goal.invariant-loop-entry
invariant-loop-entry l = record {
  trees : AreTrees l.low;
  entries : AreKeyedTrees l.entries.items;
  count : length l.low.entries.items + length l.entries.items ≤ length l.fn.low.entries.items + length l.fn.high.entries.items + 1;
  keys_are : in_order l.low ++ entry_keys (reverse l.entries.items) ≡ in_order l.fn.low ++ in_order l.fn.high;
}

abbrev pub decreases-loop-entry : goal.decreases-loop-entry
decreases-loop-entry l = length l.entries.items
