use Rattle.std.proofs.Common.{[], arith}
use Rattle.structure_tests.proofs.Shops.{may_serve}
use Rattle.structure_tests.proofs.shop.first_batch.Goals as goal

pub begin-requires : goal.begin-requires
begin-requires c =
    rw c.in_ok-shop.ensures (may_serve 0 _ [] c.in_ok-calls.calls.items c.in_ok-calls.ensures (record { leaves = tt; count = omega arith }) (omega arith) c.requires.few c.requires.some)

pub end-requires : goal.end-requires
end-requires c =
    (record { before = c.in_ok-shop.shop; calls = c.in_ok-calls.calls.items; ins = c.in_ok-opened.pieces.items }, c.in_ok-opened.ensures.context, c.in_ok-outs.ensures)
