use Rattle.std.proofs.Common.{length}
use Rattle.tree23.specs.SideBySide.{in_reverse}
use Rattle.tree_forest.proofs.ForestLemmas.Passing.{IsPassing}
use Rattle.tree_forest.proofs.forest.remaining.pass_below.Given as goal

abbrev pub invariant-loop-entry : goal.invariant-loop-entry
invariant-loop-entry l = IsPassing l.key (in_reverse l.fn.sides.high) l.rooted l.sides

abbrev pub decreases-loop-entry : goal.decreases-loop-entry
decreases-loop-entry l = length l.sides.high.entries.items
