use Rattle.std.proofs.Common.{◌≡◌, ◌+◌, ℕ, min, length, ◌∙◌, refl, sym, ap, subst, length-append, rules}
use Rattle.batched_stack.specs.Rooms.{IsNext}
use Rattle.batched_stack.proofs.ServeLemmas.Taken.{taken_items, taken_popped}
use Rattle.batched_stack.proofs.serve.serve_piece.Goals as goal

pub returns : goal.returns
returns c =
    let items = c.args.piece.stripe.items.items in
    let pushes = c.args.piece.pushes.items in
    let again : c.min-again.result ≡ min c.args.piece.pops (length pushes) = search rules in
    let long : length c.in_ok-stripe.stripe.items.items ≡ length c.take_newest-2.new.items.items + length c.deref.result.now = ap length c.in_ok-stripe.ensures.items ∙ length-append c.take_newest-2.new.items.items c.deref.result.now in
    record {
      number = refl;
      items = rw (c.in_ok-stripe.ensures.items, c.deref.ensures.value, c.in_ok-take_newest-2.ensures.items, c.in_ok-take_newest.ensures.items, again) (taken_items items pushes c.args.piece.pops c.args.piece.few);
      popped = rw (c.in_ok-take_newest-2.ensures.popped, c.in_ok-take_newest.ensures.popped, c.in_ok-popped.ensures.items, again) (taken_popped items pushes c.args.piece.pops c.args.piece.few);
      room = subst (λ (n : ℕ). IsNext c.args.piece.stripe.room n c.in_ok-stripe.stripe.room) (sym long) c.in_ok-stripe.ensures.room;
    }
