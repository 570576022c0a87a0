use Rattle.std.proofs.Common.{◌≡◌, map, take}
use Rattle.std.specs.List.{AllByRecursion}
use Rattle.shared_collections.specs.Code.Maps.{asked_of, IsSmallOp}
use Rattle.shared_collections.proofs.ranked.all_asked.Given as goal

abbrev pub invariant-loop-op : goal.invariant-loop-op
invariant-loop-op l = record {
  ops : l.asked.items ≡ map asked_of (take l.op-index l.ops);
  small : AllByRecursion IsSmallOp l.asked.items;
}
