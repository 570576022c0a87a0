use Rattle.std.proofs.Common.{sym, ◌∙◌}
use Rattle.job_lang.proofs.LimitLemmas.ArgumentRanges.{none_more, some_here}
use Rattle.job_lang.proofs.text_limits.argument_range.+testing.Goals as goal

pub any_out_of_range-returns-then-is_item_out_of_range : goal.any_out_of_range-returns-then-is_item_out_of_range
any_out_of_range-returns-then-is_item_out_of_range t c =
    sym (some_here c.args.copies c.args.items.now c.loop-item.item-index c.item-item.result c.loop-item-test.true c.item-item.is c.loop-item.invariant
    (sym c.is_item_out_of_range.ensures ∙ c.if-is_item_out_of_range.true))

pub any_out_of_range-loop-item-preserved : goal.any_out_of_range-loop-item-preserved
any_out_of_range-loop-item-preserved t c =
    none_more c.args.copies c.args.items.now c.loop-item.item-index c.item-item.result c.loop-item-test.true c.item-item.is c.loop-item.invariant
    (sym c.is_item_out_of_range.ensures ∙ c.if-is_item_out_of_range.false)
