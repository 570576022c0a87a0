use Rattle.std.proofs.Common.{◌++◌, ◌∷◌, [], ap, sym, ◌∙◌, arith, length-append}
use Rattle.std.proofs.lemmas.Grind.{common_steps}
use Rattle.piece_board.specs.Entries.{entry_at}
use Rattle.shared_pieces.proofs.Places.{next_free, placed_next}
use Rattle.shared_pieces.proofs.rows.post_all.Goals as goal

pub post-requires-clause-free : goal.post-requires-clause-free
post-requires-clause-free g c κs within =
    let i = c.loop-input.invariant in
    let place = i.place in
    ap (λ l. entry_at c.loop-input.place l) i.posted ∙ next_free 0 c.loop-input.yielded c.loop-input.place (omega (arith, place))

pub loop-input-preserved : goal.loop-input-preserved
loop-input-preserved g c =
    let i = c.loop-input.invariant in
    let place = i.place in
    let input = c.in-Some.input in
    let long = length-append c.loop-input.yielded (input ∷ []) in record {
      desk = c.post.ensures.desk;
      all = grind (arith, common_steps, c.in-Some.ensures.steps, i.all);
      place = omega (arith, place, long);
      posted = ap (λ d. d.posted) c.post.ensures.posted ∙ (ap (λ l. l ++ (c.loop-input.place, input) ∷ []) i.posted
          ∙ sym (placed_next c.loop-input.yielded input c.loop-input.place place));
    }
