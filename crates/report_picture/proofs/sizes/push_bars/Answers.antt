use Rattle.std.proofs.Common.{ℕ, List, ◌+◌, ◌++◌, length, ap, ◌∙◌, sym, append_assoc}
use Rattle.std.specs.List.{flat_map, range_with_len}
use Rattle.report_picture.specs.Boxes.{sized}
use Rattle.report_picture.specs.Code.Texts.{bar_text}
use Rattle.report_picture.proofs.Ranges.{flat_more}
use Rattle.report_picture.proofs.sizes.push_bars.Goals as goal

pub loop-mark-preserved : goal.loop-mark-preserved
loop-mark-preserved c =
    let book = c.args.book.now in
    let line : ℕ → List ℕ = λ mark. bar_text c.args.top mark (sized (mark + 1) book) (length book) in
    let n = c.loop-mark.mark in
    c.in_ok-push_bar.ensures
    ∙ (ap (λ count. c.loop-mark.text.items ++ bar_text c.args.top n count (length book)) c.count_sized-count.ensures.count
    ∙ (ap (λ t. t ++ line n) c.loop-mark.invariant
    ∙ (append_assoc c.args.text.now.items (flat_map line (range_with_len 0 n)) (line n) ∙ ap (λ t. c.args.text.now.items ++ t) (sym (flat_more line n)))))
