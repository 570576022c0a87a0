use Rattle.std.proofs.Common.{map}
use Rattle.batched_stack.proofs.EndLemmas.Replies.{one_reply_more}
use Rattle.batched_stack.proofs.end.push_numbers.Goals as goal

pub loop-i-preserved : goal.loop-i-preserved
loop-i-preserved c = rw (c.in_ok-push.ensures.items, c.loop-i.invariant, c.from.ensures, c.popped_item-item.ensures) (one_reply_more (map (λ v. v.items) c.args.popped.now) c.args.total c.loop-i.i c.args.replies.now.items)
