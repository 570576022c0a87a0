use Rattle.std.proofs.Common.{◌≡◌, ◌<◌, [], length, ◌∙◌, refl, sym, ap, get_or, set, arith}
use Rattle.std.proofs.lemmas.List.{map-set, get_or-map}
use Rattle.batched_queue.specs.Code.Stripes.{lists}
use Rattle.batched_queue.proofs.begin.add_piece.Goals as goal

pub returns-clause-lists : goal.returns-clause-lists
returns-clause-lists c =
    map-set (λ s. s.items) c.args.stripes.now.items c.args.number c.replace-items.new.dest
    ∙ ap (λ xs. set (lists c.args.stripes.now.items) c.args.number xs) (ap (λ s. s.items) c.replace-items.ensures.after ∙ c.new.ensures.items)

-- the stripe that is taken out is the one that stood there
pub returns-clause-piece : goal.returns-clause-piece
returns-clause-piece c =
    let stripes = c.args.stripes.now.items in
    let within : c.args.number < length stripes = omega (arith, c.requires.low, c.requires.sixteen) in
    let there : c.replace-items.result ≡ get_or stripes c.args.number c.index_mut.result.now = c.replace-items.ensures.value ∙ c.index_mut.ensures.value in (
      _,
      c.in_ok-push.ensures.items,
      record {
        number = refl;
        items = ap (λ s. s.items) there ∙ sym (get_or-map (λ s. s.items) stripes c.args.number c.index_mut.result.now [] within);
        puts = refl;
        gets = refl;
      },
    )
