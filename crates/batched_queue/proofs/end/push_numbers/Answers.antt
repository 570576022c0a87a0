use Rattle.std.proofs.Common.{map}
use Rattle.batched_queue.proofs.Service.{one_reply_more}
use Rattle.batched_queue.proofs.end.push_numbers.Goals as goal

pub loop-i-preserved : goal.loop-i-preserved
loop-i-preserved c = rw (c.in_ok-push.ensures.items, c.loop-i.invariant, c.from.ensures, c.taken_item-item.ensures) (one_reply_more (map (λ v. v.items) c.args.taken.now) c.args.first c.loop-i.i c.args.replies.now.items)
