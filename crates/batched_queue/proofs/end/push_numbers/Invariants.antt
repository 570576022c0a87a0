use Rattle.std.proofs.Common.{◌≡◌, ◌++◌, map}
use Rattle.batched_queue.specs.Code.Replies.{number_replies}
use Rattle.batched_queue.proofs.end.push_numbers.Given as goal

abbrev pub invariant-loop-i : goal.invariant-loop-i
invariant-loop-i l = l.replies.items ≡ l.fn.replies.items ++ number_replies (map (λ v. v.items) l.taken) l.first l.i
