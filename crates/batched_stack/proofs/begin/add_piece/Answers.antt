use Rattle.std.proofs.Common.{◌≡◌, ◌<◌, [], length, ◌∙◌, refl, sym, ap, get_or, set, arith}
use Rattle.std.proofs.lemmas.List.{map-set, get_or-map}
use Rattle.std.proofs.lemmas.Grind.{common_steps}
use Rattle.batched_stack.specs.declared.stripe.Stripe.{Stripe}
use Rattle.batched_stack.specs.Lists.{lists}
use Rattle.batched_stack.proofs.begin.add_piece.Goals as goal

pub returns-clause-lists : goal.returns-clause-lists
returns-clause-lists c = map-set (λ (s : Stripe). s.items.items) c.args.stripes.now.items c.args.number c.replace-stripe.new.dest ∙ ap (λ xs. set (lists c.args.stripes.now.items) c.args.number xs) (ap (λ (s : Stripe). s.items.items) c.replace-stripe.ensures.after ∙ c.no_stripe.ensures)

pub returns-clause-rooms : goal.returns-clause-rooms
returns-clause-rooms c = λ j other. rw (map-set (λ (s : Stripe). s.room) c.args.stripes.now.items c.args.number c.replace-stripe.new.dest) (grind (arith, common_steps, other))

-- the stripe that is taken out is the one that stood there
pub returns-clause-piece : goal.returns-clause-piece
returns-clause-piece c =
    let stripes = c.args.stripes.now.items in
    let within : c.args.number < length stripes = omega (arith, c.requires.low, c.requires.sixteen) in
    let there : c.replace-stripe.result ≡ get_or stripes c.args.number c.index_mut.result.now = c.replace-stripe.ensures.value ∙ c.index_mut.ensures.value in (
      _,
      c.in_ok-push.ensures.items,
      record {
        number = refl;
        items = ap (λ (s : Stripe). s.items.items) there ∙ sym (get_or-map (λ (s : Stripe). s.items.items) stripes c.args.number c.index_mut.result.now [] within);
        room = ap (λ (s : Stripe). s.room) there ∙ sym (get_or-map (λ (s : Stripe). s.room) stripes c.args.number c.index_mut.result.now 0 within);
        pushes = refl;
        pops = refl;
      },
    )
