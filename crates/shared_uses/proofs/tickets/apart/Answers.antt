use Rattle.std.proofs.Common.{◌≡◌, arith}
use Rattle.std.proofs.lemmas.Grind.{common_steps}
use Rattle.shared_uses.proofs.Draws.{apart_more}
use Rattle.shared_uses.proofs.tickets.apart.Goals as goal

pub loop-hand-preserved : goal.loop-hand-preserved
loop-hand-preserved c =
    let i = c.loop-hand.invariant in
    let hand : c.in-Some.hand ≡ _ = c.in_ok-caller.was in record {
      apart = rw (hand, c.in_ok-push.ensures.items, c.in_ok-push-2.ensures.items)
          (apart_more (λ h. h.caller) c.loop-hand.yielded c.loop-hand.callers.items c.loop-hand.drawn.items c.in_ok-caller.field-0 i.apart);
      all = grind (arith, common_steps, c.in-Some.ensures.steps, i.all);
    }
