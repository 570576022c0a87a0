use Rattle.std.proofs.Common.{◌≡◌, ◌++◌, replicate}
use Rattle.batched_queue.proofs.end.push_same.Given as goal

abbrev pub invariant-loop : goal.invariant-loop
invariant-loop l = l.replies.items ≡ l.fn.replies.items ++ replicate l.counter l.reply
