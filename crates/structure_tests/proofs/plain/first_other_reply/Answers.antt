use Rattle.std.proofs.Common.{◌*◌, arith}
use Rattle.structure_tests.proofs.plain.first_other_reply.Goals as goal

pub loop-place-preserved : goal.loop-place-preserved
loop-place-preserved c number =
    let now = c.serve_one.ensures (c.loop-place.place * 4294967296) c.loop-place.invariant number in omega (arith, now)
