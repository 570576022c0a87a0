use Rattle.std.proofs.Common.{◌≡◌, ◌+◌, ◌-◌, ◌<◌, length, drop}
use Rattle.key_sets.specs.Groups.{group_of}
use Rattle.batched_map.specs.Code.Pieces.{befores}
use Rattle.batched_map.proofs.begin.range_at.Given as goal

abbrev pub invariant-loop-number : goal.invariant-loop-number
invariant-loop-number l = record {
  within : l.number < length l.ranges;
  passed : l.number + group_of l.index (drop (l.number + 1) (befores l.ranges)) ≡ group_of l.index (drop 1 (befores l.ranges));
}

abbrev pub decreases-loop-number : goal.decreases-loop-number
decreases-loop-number l = length l.ranges - l.number
