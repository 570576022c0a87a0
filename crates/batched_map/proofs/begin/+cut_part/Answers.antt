use Rattle.std.proofs.Common.{◌≡◌, ◌/◌, ◌<◌, ◌∷◌, ◌++◌, length, ap₂, sym, ◌∙◌, arith}
use Rattle.std.proofs.lemmas.List.{take-append-drop}
use Rattle.batched_map.proofs.Cutting.{halved, added_both}
use Rattle.batched_map.proofs.begin.+cut_part.Goals as goal

pub cut_part-requires : goal.cut_part-requires
cut_part-requires t c =
    let starts = c.args.starts.now in
    let lows = c.split_at.result.0.now in
    let start = c.in-Some.start.now in
    let highs = c.in-Some.highs.now in
    let whole : starts ≡ lows ++ start ∷ highs = sym (take-append-drop (length starts / 2) starts) ∙ ap₂ (λ front back. front ++ back) (sym c.split_at.ensures.front) (sym c.split_at.ensures.back ∙ c.in-Some.ensures.cases.0) in
    let h = halved c.args.before starts lows start highs c.args.part c.in_ok-low.low c.in_ok-low.high c.requires.ascends whole c.in_ok-low.ensures.low c.in_ok-low.ensures.high in
    let falls : length lows < t = omega (arith, h.fewer_lows, c.decreases) in
    (falls, (omega (arith, h.few_low, c.requires.few), h.ascends_low))

pub cut_part-requires-2 : goal.cut_part-requires-2
cut_part-requires-2 t c =
    let starts = c.args.starts.now in
    let lows = c.split_at.result.0.now in
    let start = c.in-Some.start.now in
    let highs = c.in-Some.highs.now in
    let whole : starts ≡ lows ++ start ∷ highs = sym (take-append-drop (length starts / 2) starts) ∙ ap₂ (λ front back. front ++ back) (sym c.split_at.ensures.front) (sym c.split_at.ensures.back ∙ c.in-Some.ensures.cases.0) in
    let h = halved c.args.before starts lows start highs c.args.part c.in_ok-low.low c.in_ok-low.high c.requires.ascends whole c.in_ok-low.ensures.low c.in_ok-low.ensures.high in
    let falls : length highs < t = omega (arith, h.fewer_highs, c.decreases) in
    (falls, (omega (arith, h.few, c.requires.few, c.len.ensures.entries), h.ascends_high))

pub returns : goal.returns
returns t c =
    let starts = c.args.starts.now in
    let lows = c.split_at.result.0.now in
    let start = c.in-Some.start.now in
    let highs = c.in-Some.highs.now in
    let whole : starts ≡ lows ++ start ∷ highs = sym (take-append-drop (length starts / 2) starts) ∙ ap₂ (λ front back. front ++ back) (sym c.split_at.ensures.front) (sym c.split_at.ensures.back ∙ c.in-Some.ensures.cases.0) in
    let h = halved c.args.before starts lows start highs c.args.part c.in_ok-low.low c.in_ok-low.high c.requires.ascends whole c.in_ok-low.ensures.low c.in_ok-low.ensures.high in
    added_both c.args.before starts lows highs c.args.part c.in_ok-low.low c.in_ok-low.high c.args.ranges.now.items c.cut_part.new.ranges.items c.cut_part-2.new.ranges.items h c.in_ok-cut_part.ensures
    (rw c.len.ensures.entries at c.in_ok-cut_part-2.ensures)
