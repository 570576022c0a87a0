use Rattle.std.proofs.Common.{◌+◌, inr, arith}
use Rattle.std.proofs.lemmas.Grind.{pow_more}
use Rattle.batched_stack.proofs.stripe.room.next_room.Goals as goal

pub loop-new-preserved : goal.loop-new-preserved
loop-new-preserved c =
    let i = c.loop-new.invariant in
    record {
      power = (i.power.0 + 1, rw pow_more (omega (arith, i.power.1)));
      least = inr (omega arith);
      some = omega (arith, i.some);
    }
