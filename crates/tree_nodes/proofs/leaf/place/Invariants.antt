use Rattle.std.proofs.Common.{◌<◌, ◌≤◌, ◌-◌, length, take, drop}
use Rattle.std.specs.List.{AllByRecursion}
use Rattle.tree_nodes.proofs.leaf.place.Given as goal

abbrev pub invariant-loop-low : goal.invariant-loop-low
invariant-loop-low l = record {
  ordered : l.low ≤ l.high;
  within : l.high ≤ length l.leaf;
  below : AllByRecursion (λ k. k < l.key) (take l.low l.leaf);
  above : AllByRecursion (λ k. l.key ≤ k) (drop l.high l.leaf);
}

abbrev pub decreases-loop-low : goal.decreases-loop-low
decreases-loop-low l = l.high - l.low
