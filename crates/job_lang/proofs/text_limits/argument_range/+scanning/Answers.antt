use Rattle.job_lang.proofs.LimitLemmas.ArgumentRanges.{passed, found_here}
use Rattle.job_lang.proofs.text_limits.argument_range.+scanning.Goals as goal

pub out_of_range_in_items-returns-in-Some : goal.out_of_range_in_items-returns-in-Some
out_of_range_in_items-returns-in-Some t c =
    found_here c.args.copies c.args.items.now c.loop-item.item-index c.item-item.result c.in-Some.line c.args.words.now c.loop-item.words c.out_of_range_in_item.new.words
    c.loop-item-test.true c.item-item.is c.loop-item.invariant c.in-Some.ensures

pub out_of_range_in_items-loop-item-preserved : goal.out_of_range_in_items-loop-item-preserved
out_of_range_in_items-loop-item-preserved t c =
    passed c.args.copies c.args.items.now c.loop-item.item-index c.item-item.result c.args.words.now c.loop-item.words c.out_of_range_in_item.new.words
    c.loop-item-test.true c.item-item.is c.loop-item.invariant c.in_default.ensures
