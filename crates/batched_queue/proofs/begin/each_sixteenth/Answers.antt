use Rattle.std.proofs.Common.{◌++◌, ◌∷◌, [], ◌+◌, ◌∙◌, sym, ap, drop, get_or, append_assoc}
use Rattle.batched_queue.specs.Code.Stripes.{every}
use Rattle.batched_queue.proofs.Every.{every_from, every_next}
use Rattle.batched_queue.proofs.begin.each_sixteenth.Goals as goal

pub loop-at-init : goal.loop-at-init
loop-at-init c = rw c.in_ok-found.ensures.items (sym (every_from c.args.place c.args.items.now))

pub loop-at-preserved : goal.loop-at-preserved
loop-at-preserved c =
    let items = c.args.items.now in
    let at = c.loop-at.at in
    let found = c.loop-at.found.items in
    rw c.in_ok-push.ensures.items (append_assoc found (get_or items at 0 ∷ []) (every 0 (drop (at + 16) items)) ∙ ap (λ rest. found ++ rest) (sym (every_next at items c.loop-at-test.true)) ∙ c.loop-at.invariant)
