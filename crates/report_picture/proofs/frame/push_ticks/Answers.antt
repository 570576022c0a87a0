use Rattle.std.proofs.Common.{ℕ, List, ◌+◌, ◌*◌, ◌/◌, ◌++◌, ap, ◌∙◌, sym, append_assoc}
use Rattle.std.specs.List.{flat_map, range_with_len}
use Rattle.report_picture.specs.Boxes.{span_of, across}
use Rattle.report_picture.specs.Code.Texts.{mark_text}
use Rattle.report_picture.proofs.Ranges.{flat_more}
use Rattle.report_picture.proofs.frame.push_ticks.Goals as goal

pub loop-mark-preserved : goal.loop-mark-preserved
loop-mark-preserved c =
    let tick : ℕ → ℕ = λ mark. mark * (span_of c.args.leaves / 8 + 1) in
    let line : ℕ → List ℕ = λ mark. mark_text (across c.args.scale (tick mark)) c.args.foot (tick mark) (2 * c.args.leaves) in
    let n = c.loop-mark.mark in
    c.in_ok-push_mark.ensures
    ∙ (ap (λ left. c.loop-mark.text.items ++ mark_text left c.args.foot (tick n) (2 * c.args.leaves)) c.across-left.ensures
    ∙ (ap (λ t. t ++ line n) c.loop-mark.invariant
    ∙ (append_assoc c.args.text.now.items (flat_map line (range_with_len 0 n)) (line n) ∙ ap (λ t. c.args.text.now.items ++ t) (sym (flat_more line n)))))
