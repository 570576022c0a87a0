use Rattle.std.proofs.Common.{◌≡◌, ◌<◌, ◌-◌, ◌+◌, ◌++◌, ◌∷◌, [], length, reverse, drop, get_or, ◌∙◌, sym, ap, append_assoc, arith}
use Rattle.std.proofs.lemmas.Grind.{common_steps}
use Rattle.batched_stack.proofs.ServeLemmas.Taken.{take_one_less, drop_one_more, last_taken}
use Rattle.batched_stack.proofs.serve.take_newest.Goals as goal
use Rattle.batched_stack.proofs.serve.take_newest.Goals.{in-Some+in_ok-push, in_default}
use Rattle.std.proofs.lemmas.Option.{same_Some}

pub loop-preserved : goal.loop-preserved
loop-preserved c =
    let items = c.args.items.now.items in
    let popped = c.args.popped.now.items in
    let count = c.loop.counter in
    let more : count < length items = omega (arith, c.loop-test.true, c.requires) in
    let some : 0 < c.loop.items.len = rw (c.loop.items.ok.0, c.loop.invariant.items) (grind (arith, common_steps, more)) in
    elim c.match-pop.branch [
      | in-Some+in_ok-push w ↦
          let top = same_Some _ _ (sym w.in-Some.is ∙ c.pop.ensures.value 0 some) in
          let last : w.in-Some.item ≡ get_or items (length items - (count + 1)) 0 = top ∙ rw (c.loop.items.ok.0, c.loop.invariant.items) (last_taken items count more) in
          record {
            items = c.pop.ensures.rest ∙ rw (c.loop.items.ok.0, c.loop.invariant.items) (take_one_less items count more);
            popped = rw (w.popped-is, w.in_ok-push.ensures.items, c.loop.invariant.popped) (append_assoc popped (reverse (drop (length items - count) items)) (w.in-Some.item ∷ []) ∙ ap (λ xs. popped ++ xs) (ap (λ i. reverse (drop (length items - count) items) ++ i ∷ []) last ∙ sym (drop_one_more items count more)));
            room = c.pop.ensures.capacity ∙ c.loop.invariant.room;
          }
      | in_default w ↦ absurd (w.in_default.not-Some _ (c.pop.ensures.value 0 some))
    ]
