use Rattle.std.proofs.Common.{◌≡◌, ◌+◌, ◌∷◌, [], length, map, arith, length-append}
use Rattle.std.proofs.lemmas.Grind.{common_steps}
use Rattle.std.proofs.lemmas.List.{map-append, length-map}
use Rattle.object_rows.specs.declared.members.Members.TheVariants.{One}
use Rattle.launch_batch.proofs.PieceLemmas.Placing.{put_more}
use Rattle.launch_batch.proofs.row.place_ones.Goals as goal

pub loop-input-preserved : goal.loop-input-preserved
loop-input-preserved g c =
    let before = c.loop-input.invariant in
    let yielded = c.loop-input.yielded in
    let place : c.loop-input.place ≡ c.args.first + length (map One yielded) = let long = length-map yielded One in omega (arith, before.place, long) in
    let more = map-append One yielded (c.in-Some.input ∷ []) in
    record {
      put = rw (c.in_ok-push.ensures.items, c.at.ensures, more) (put_more g.T.Kind.at c.args.pieces.now.items c.loop-input.pieces.items _ c.loop-input.place (map One yielded) (One c.in-Some.input) before.put place);
      place = omega (arith, before.place, length-append yielded (c.in-Some.input ∷ []));
      all = grind (arith, common_steps, c.in-Some.ensures.steps, before.all);
    }
