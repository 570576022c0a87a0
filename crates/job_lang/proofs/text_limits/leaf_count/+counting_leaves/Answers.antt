use Rattle.job_lang.proofs.LimitLemmas.Cuts.{count_step}
use Rattle.job_lang.proofs.text_limits.leaf_count.+counting_leaves.Goals as goal

pub count_items-loop-item-preserved : goal.count_items-loop-item-preserved
count_items-loop-item-preserved t c =
    count_step c.args.items.now c.loop-item.item-index c.item-item.result c.loop-item.leaves c.count_item.result c.min-leaves.result c.loop-item.invariant c.count_item.ensures c.item-item.is c.loop-item-test.true c.min-leaves.ensures
