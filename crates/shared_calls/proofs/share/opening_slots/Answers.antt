use Rattle.std.proofs.Common.{◌≡◌, ℕ, ap, ◌∙◌, ◌∷◌, [], ◌++◌, replicate, arith}
use Rattle.shared_calls.specs.declared.view.Slot.TheVariants.{Vacant, Whole}
use Rattle.shared_calls.proofs.share.opening_slots.Goals as goal

pub returns : goal.returns
returns g c =
    let all : c.loop.counter ≡ c.args.callers = omega arith in
    (c.new.result, c.in_ok-push-2.ensures.items ∙ ap (λ l. l ++ Whole c.args.structure c.new.result ∷ []) (c.loop.invariant ∙ ap (λ (n : ℕ). replicate n Vacant) all))
