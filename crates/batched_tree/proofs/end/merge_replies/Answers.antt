use Rattle.batched_tree.proofs.EndLemmas.Merging.{first_or_empty, merged_more, within_more}
use Rattle.batched_tree.proofs.end.merge_replies.Goals as goal

pub loop-group-preserved : goal.loop-group-preserved
loop-group-preserved c =
    let at = c.loop-group in
    rw (c.in_ok-push.ensures.items, c.unwrap_or.ensures, c.next-next.ensures.reply, c.next-next.ensures.rest, first_or_empty c.index_mut.result.now) (record {
      told = merged_more c.args.groups.now at.group-index at.left.items at.replies.items _ c.index_mut.result.now c.loop-group-test.true at.invariant.within c.index_mut.ensures.value at.invariant.told;
      within = within_more c.args.groups.now at.group-index at.left.items _ c.loop-group-test.true at.invariant.within;
    })
