use Rattle.std.proofs.Common.{length, ◌-◌, ◌≤◌, take}
use Rattle.std.specs.List.{AllByRecursion}
use Rattle.tree_forest.proofs.forest.calls.place.Given as goal

abbrev pub invariant-loop-at : goal.invariant-loop-at
invariant-loop-at l = record {
  within : l.at ≤ length l.trees.entries.items;
  not_above : AllByRecursion (λ e. e.key ≤ l.key) (take l.at l.trees.entries.items);
}

abbrev pub decreases-loop-at : goal.decreases-loop-at
decreases-loop-at l = length l.trees.entries.items - l.at
