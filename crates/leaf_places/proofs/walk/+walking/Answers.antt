use Rattle.std.proofs.Common.{arith, ◌+◌}
use Rattle.job_lang.proofs.Weights.{weight_item}
use Rattle.job_lang.proofs.LimitLemmas.WordCounts.{word_count_more, front_word_count}
use Rattle.leaf_places.proofs.Walking.{places_more}
use Rattle.leaf_places.proofs.walk.+walking.Goals as goal

pub push_items-loop-item-preserved : goal.push_items-loop-item-preserved
push_items-loop-item-preserved t c =
    let more = word_count_more c.args.items.now c.loop-item.item-index c.item-item.result c.loop-item-test.true c.item-item.is in
    record {
      begin = omega (arith, more, c.loop-item.invariant.begin, c.item_word_count-begin.ensures);
      made = places_more c.args.lines.now c.args.items.now c.loop-item.item-index c.item-item.result c.args.first c.loop-item.begin _ _ _ c.loop-item-test.true c.item-item.is c.loop-item.invariant.begin
          c.loop-item.invariant.made c.in_ok-push_item.ensures;
    }

pub push_items-push_item-requires : goal.push_items-push_item-requires
push_items-push_item-requires t c =
    let more = word_count_more c.args.items.now c.loop-item.item-index c.item-item.result c.loop-item-test.true c.item-item.is in
    let front = front_word_count c.args.items.now (c.loop-item.item-index + 1) in (
      (let below = weight_item c.item-item.result c.args.items.now c.loop-item.item-index c.loop-item-test.true c.item-item.is in omega (arith, below)),
      (omega (arith, more, front, c.loop-item.invariant.begin, c.requires.within), c.requires.short),
    )

pub push_items-overflow_add-begin : goal.push_items-overflow_add-begin
push_items-overflow_add-begin t c =
    let more = word_count_more c.args.items.now c.loop-item.item-index c.item-item.result c.loop-item-test.true c.item-item.is in
    let front = front_word_count c.args.items.now (c.loop-item.item-index + 1) in
    omega (arith, more, front, c.loop-item.invariant.begin, c.item_word_count-begin.ensures, c.requires.within, c.requires.short)
