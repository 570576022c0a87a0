use Rattle.std.proofs.Common.{◌≡◌, ◌+◌, ◌%◌, ◌<◌, [], length, ◌∙◌, sym, ap, arith}
use Rattle.std.proofs.lemmas.List.{get_or-map}
use Rattle.batched_queue.specs.Code.Stripes.{place_in, count_in}
use Rattle.batched_queue.proofs.end.taken_item.Goals as goal

-- the stripe of the item has more items than stand before it
pub index-requires : goal.index-requires
index-requires c =
    let taken = c.args.taken.now in
    let first = c.args.first in
    let i = c.args.i in
    let j = (first + i) % 16 in
    let low : j < 16 = omega arith in
    let within : j < length taken = omega (arith, low, c.requires.sixteen) in
    let long : length c.index-taken-first.result.items ≡ count_in first j c.args.found = ap (λ v. length v.items) c.index-taken-first.is ∙ sym (ap length (get_or-map (λ v. v.items) taken j _ [] within)) ∙ c.requires.taken j low in
    let place : place_in ((first + i) % 16) first ≡ i % 16 = omega arith in
    omega (arith, long, place, c.requires.below)
