use Rattle.std.proofs.Common.{◌≡◌, ◌∷◌, arith}
use Rattle.std.proofs.lemmas.List.{map-set}
use Rattle.std.proofs.lemmas.Grind.{common_steps}
use Rattle.batched_stack.specs.declared.stripe.Stripe.{Stripe}
use Rattle.batched_stack.proofs.end.put_back.Goals as goal

pub loop-out-preserved : goal.loop-out-preserved
loop-out-preserved c =
    let i = c.loop-out.invariant in
    let out = c.in-Some.out in
    let steps : c.loop-out.out-iterator.rest.items ≡ out ∷ c.next.new.self.rest.items = grind (arith, common_steps, c.in-Some.ensures.steps) in
    record {
      sixteen = grind (arith, common_steps, i.sixteen);
      popped_sixteen = grind (arith, common_steps, i.popped_sixteen);
      lists = rw (map-set (λ (s : Stripe). s.items.items) c.loop-out.stripes.items out.number out.stripe) (rw steps at i.lists);
      rooms = rw (map-set (λ (s : Stripe). s.room) c.loop-out.stripes.items out.number out.stripe) (rw steps at i.rooms);
      popped = rw (map-set (λ v. v.items) c.loop-out.popped.items out.number out.popped) (rw steps at i.popped);
    }
