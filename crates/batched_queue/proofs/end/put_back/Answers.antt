use Rattle.std.proofs.Common.{◌≡◌, ◌∷◌, arith}
use Rattle.std.proofs.lemmas.List.{map-set}
use Rattle.std.proofs.lemmas.Grind.{common_steps}
use Rattle.batched_queue.proofs.end.put_back.Goals as goal

pub loop-out-preserved : goal.loop-out-preserved
loop-out-preserved c =
    let i = c.loop-out.invariant in
    let out = c.in-Some.out in
    let steps : c.loop-out.out-iterator.rest.items ≡ out ∷ c.next.new.self.rest.items = grind (arith, common_steps, c.in-Some.ensures.steps) in
    record {
      sixteen = grind (arith, common_steps, i.sixteen);
      taken_sixteen = grind (arith, common_steps, i.taken_sixteen);
      lists = rw (map-set (λ s. s.items) c.loop-out.stripes.items out.number out.items) (rw steps at i.lists);
      taken = rw (map-set (λ v. v.items) c.loop-out.all.items out.number out.taken) (rw steps at i.taken);
    }
