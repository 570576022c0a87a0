use Rattle.std.proofs.Common.{[], ◌∷◌, ◌++◌, ◌+◌, drop, ap, ◌∙◌}
use Rattle.std.proofs.lemmas.List.{map-append}
use Rattle.forest_cuts.specs.Parts.{keys_of_each}
use Rattle.forest_cuts.proofs.PartLemmas.{ranges_in, one_more}
use Rattle.forest_cuts.proofs.cut.cut_below_each.Goals as goal

pub loop-start-preserved : goal.loop-start-preserved
loop-start-preserved c =
    let at = c.loop-start in
    let starts = c.args.starts.now in
    let part = c.in_ok-split_off_below.field-0 in
    let rest = c.split_off_below.new.self in
    ap (λ parts. parts ++ ranges_in (drop (at.start-index + 1) starts) rest) (ap keys_of_each c.in_ok-push.ensures.items ∙ map-append (λ forest. forest.keys) at.parts.items (part ∷ []))
    ∙ one_more starts at.start-index at.rest part.keys rest (keys_of_each at.parts.items) (ranges_in starts c.args.forest.keys) c.loop-start-test.true c.in_ok-split_off_below.ensures.split at.invariant
