use Rattle.std.proofs.Common.{arith, ◌+◌}
use Rattle.job_lang.proofs.LimitLemmas.WordCounts.{word_count_more, front_word_count}
use Rattle.job_lang.proofs.text_limits.word_count.+counting_words.Goals as goal

pub items_word_count-overflow_add-word_count : goal.items_word_count-overflow_add-word_count
items_word_count-overflow_add-word_count t c =
    let more = word_count_more c.args.items.now c.loop-item.item-index c.item-item.result c.loop-item-test.true c.item-item.is in
    let front = front_word_count c.args.items.now (c.loop-item.item-index + 1) in
    omega (arith, more, front, c.loop-item.invariant, c.item_word_count-word_count.ensures, c.requires)

pub items_word_count-loop-item-preserved : goal.items_word_count-loop-item-preserved
items_word_count-loop-item-preserved t c =
    let more = word_count_more c.args.items.now c.loop-item.item-index c.item-item.result c.loop-item-test.true c.item-item.is in
    omega (arith, more, c.loop-item.invariant, c.item_word_count-word_count.ensures)
