use Rattle.std.proofs.Common.{◌≡◌, ◌++◌, ◌+◌, length}
use Rattle.std.specs.List.{flat_map, range_with_len}
use Rattle.report_picture.specs.Boxes.{sized}
use Rattle.report_picture.specs.Code.Texts.{bar_text}
use Rattle.report_picture.proofs.sizes.push_bars.Given as goal

abbrev pub invariant-loop-mark : goal.invariant-loop-mark
invariant-loop-mark l = l.text.items ≡ l.fn.text.items ++ flat_map (λ mark. bar_text l.top mark (sized (mark + 1) l.book) (length l.book)) (range_with_len 0 l.mark)
