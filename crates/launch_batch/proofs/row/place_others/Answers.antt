use Rattle.std.proofs.Common.{arith, ◌∷◌, [], length-append}
use Rattle.std.proofs.lemmas.Grind.{common_steps}
use Rattle.launch_batch.proofs.PieceLemmas.Placing.{put_more}
use Rattle.launch_batch.proofs.row.place_others.Goals as goal

pub loop-input-preserved : goal.loop-input-preserved
loop-input-preserved g c =
    let before = c.loop-input.invariant in
    record {
      put = rw (c.in_ok-push.ensures.items, c.at.ensures) (put_more g.T.Kind.at c.args.pieces.now.items c.loop-input.pieces.items _ c.loop-input.place c.loop-input.yielded c.in-Some.input before.put before.place);
      place = omega (arith, before.place, length-append c.loop-input.yielded (c.in-Some.input ∷ []));
      all = grind (arith, common_steps, c.in-Some.ensures.steps, before.all);
    }
