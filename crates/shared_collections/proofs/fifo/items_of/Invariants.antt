use Rattle.std.proofs.Common.{◌≡◌, map, take}
use Rattle.std.specs.List.{AllByRecursion}
use Rattle.shared_collections.specs.Code.Fifos.{item_in}
use Rattle.shared_collections.specs.Code.Numbers.{IsSmall}
use Rattle.shared_collections.proofs.fifo.items_of.Given as goal

abbrev pub invariant-loop-op : goal.invariant-loop-op
invariant-loop-op l = record {
  items : l.items.items ≡ map item_in (take l.op-index l.ops);
  fit : AllByRecursion IsSmall l.items.items;
}
