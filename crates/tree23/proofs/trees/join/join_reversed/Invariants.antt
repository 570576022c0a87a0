use Rattle.std.proofs.Common.{◌≡◌, length}
use Rattle.tree23.specs.SideBySide.{in_reverse, AreTrees}
use Rattle.tree23.proofs.trees.join.join_reversed.Given as goal

abbrev pub invariant-loop-entry : goal.invariant-loop-entry
invariant-loop-entry l = record {
  trees_are : AreTrees l.trees;
  keys_are : in_reverse l.trees ≡ in_reverse l.fn.trees;
}

abbrev pub decreases-loop-entry : goal.decreases-loop-entry
decreases-loop-entry l = length l.trees.entries.items
