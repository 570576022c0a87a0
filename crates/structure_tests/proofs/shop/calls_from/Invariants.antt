use Rattle.std.proofs.Common.{◌≡◌}
use Rattle.structure_tests.specs.Shops.{AreFrom}
use Rattle.structure_tests.proofs.shop.calls_from.Given as goal

abbrev pub invariant-loop-op : goal.invariant-loop-op
invariant-loop-op l = record {
  from : AreFrom 0 l.worker l.calls.items;
  worker : l.worker ≡ l.op-index;
}
