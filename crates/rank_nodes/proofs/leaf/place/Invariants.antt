use Rattle.std.proofs.Common.{◌≤◌, ◌-◌, length, take, drop}
use Rattle.keyed_pieces.specs.Keyed.{AreBelow, AreFrom}
use Rattle.rank_nodes.specs.Maps.{key_of}
use Rattle.rank_nodes.proofs.leaf.place.Given as goal

abbrev pub invariant-loop-low : goal.invariant-loop-low
invariant-loop-low l = record {
  ordered : l.low ≤ l.high;
  within : l.high ≤ length l.leaf;
  below : AreBelow key_of l.key (take l.low l.leaf);
  above : AreFrom key_of l.key (drop l.high l.leaf);
}

abbrev pub decreases-loop-low : goal.decreases-loop-low
decreases-loop-low l = l.high - l.low
