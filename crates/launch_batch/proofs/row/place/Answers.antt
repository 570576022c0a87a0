use Rattle.std.proofs.Common.{◌≡◌, ◌+◌, length, map, ap, ◌∙◌, arith, length-append}
use Rattle.std.proofs.lemmas.List.{length-map}
use Rattle.object_rows.specs.declared.members.Members.TheVariants.{One}
use Rattle.launch_batch.proofs.PieceLemmas.Placing.{placed_both}
use Rattle.launch_batch.proofs.row.place.Goals as goal

pub place_ones-requires-after_bounds : goal.place_ones-requires-after_bounds
place_ones-requires-after_bounds g c = λ lifetimes bounds.
    let ones = c.into_parts-ones.result.0.items in
    let all = ap length c.into_parts-ones.ensures ∙ length-append (map One ones) c.into_parts-ones.result.1.items in
    let long = length-map ones One in
    omega (arith, c.requires, all, long)

pub place_others-requires-after_bounds : goal.place_others-requires-after_bounds
place_others-requires-after_bounds g c = λ lifetimes bounds.
    let ones = c.into_parts-ones.result.0.items in
    let all = ap length c.into_parts-ones.ensures ∙ length-append (map One ones) c.into_parts-ones.result.1.items in
    let long = length-map ones One in
    omega (arith, c.requires, all, long, c.in_ok-behind.ensures.behind)

pub returns : goal.returns
returns g c =
    let ones = c.into_parts-ones.result.0.items in
    let long = length-map ones One in
    let behind : c.in_ok-behind.behind ≡ c.args.first + length (map One ones) = omega (arith, c.in_ok-behind.ensures.behind, long) in
    rw (c.in_ok-place_others.ensures, c.in_ok-behind.ensures.pieces, c.into_parts-ones.ensures, c.in_ok-reserve_exact.ensures.items) (placed_both g.T.Kind.at c.args.pieces.now.items c.args.first c.in_ok-behind.behind (map One ones) c.into_parts-ones.result.1.items behind)
