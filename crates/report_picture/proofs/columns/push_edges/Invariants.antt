use Rattle.std.proofs.Common.{◌≡◌, ◌++◌, ◌*◌}
use Rattle.std.specs.List.{flat_map, range_with_len}
use Rattle.report_picture.specs.Columns.{column_left}
use Rattle.report_picture.specs.Code.Texts.{mark_text}
use Rattle.report_picture.proofs.columns.push_edges.Given as goal

abbrev pub invariant-loop-mark : goal.invariant-loop-mark
invariant-loop-mark l =
    l.text.items ≡ l.fn.text.items ++ flat_map (λ mark. mark_text (column_left (15 * mark)) l.foot (15 * mark * l.width) (2 * l.leaves)) (range_with_len 0 l.mark)
