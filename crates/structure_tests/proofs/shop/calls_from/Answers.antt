use Rattle.std.proofs.Common.{refl, arith}
use Rattle.structure_tests.proofs.Shops.{one_more}
use Rattle.structure_tests.proofs.shop.calls_from.Goals as goal

pub loop-op-preserved : goal.loop-op-preserved
loop-op-preserved c =
    let i = c.loop-op.invariant in
    record {
      from = rw c.in_ok-push.ensures.items (one_more 0 c.loop-op.worker c.loop-op.calls.items _ refl (omega arith) i.from);
      worker = omega (arith, i.worker);
    }
