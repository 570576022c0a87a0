use Rattle.std.proofs.Common.{◌≡◌, ◌+◌, ◌*◌, ◌/◌, ◌++◌}
use Rattle.std.specs.List.{flat_map, range_with_len}
use Rattle.report_picture.specs.Boxes.{span_of, across}
use Rattle.report_picture.specs.Code.Texts.{mark_text}
use Rattle.report_picture.proofs.frame.push_ticks.Given as goal

abbrev pub invariant-loop-mark : goal.invariant-loop-mark
invariant-loop-mark l =
    l.text.items ≡ l.fn.text.items ++ flat_map (λ mark. mark_text (across l.scale (mark * (span_of l.leaves / 8 + 1))) l.foot (mark * (span_of l.leaves / 8 + 1)) (2 * l.leaves)) (range_with_len 0 l.mark)
