use Rattle.std.proofs.Common.{ℕ, List, ◌*◌, ◌++◌, ap, ◌∙◌, sym, append_assoc}
use Rattle.std.specs.List.{flat_map, range_with_len}
use Rattle.report_picture.specs.Columns.{column_left}
use Rattle.report_picture.specs.Code.Texts.{mark_text}
use Rattle.report_picture.proofs.Ranges.{flat_more}
use Rattle.report_picture.proofs.columns.push_edges.Goals as goal

pub loop-mark-preserved : goal.loop-mark-preserved
loop-mark-preserved c =
    let n = c.loop-mark.mark in
    let foot = c.args.foot in
    let ticks = 2 * c.args.leaves in
    let line : ℕ → List ℕ = λ mark. mark_text (column_left (15 * mark)) foot (15 * mark * c.args.width) ticks in
    c.in_ok-push_mark.ensures
    ∙ (ap (λ left. c.loop-mark.text.items ++ mark_text left foot c.product-tick.result c.product.result) c.column_left.ensures
    ∙ (ap (λ tick. c.loop-mark.text.items ++ mark_text (column_left (15 * n)) foot tick c.product.result) c.product-tick.ensures
    ∙ (ap (λ last. c.loop-mark.text.items ++ mark_text (column_left (15 * n)) foot (15 * n * c.args.width) last) c.product.ensures
    ∙ (ap (λ t. t ++ line n) c.loop-mark.invariant
    ∙ (append_assoc c.args.text.now.items (flat_map line (range_with_len 0 n)) (line n) ∙ ap (λ t. c.args.text.now.items ++ t) (sym (flat_more line n)))))))
