use Rattle.std.proofs.Common.{◌≡◌, ◌++◌, map}
use Rattle.batched_stack.specs.Code.End.{number_replies}
use Rattle.batched_stack.proofs.end.push_numbers.Given as goal

abbrev pub invariant-loop-i : goal.invariant-loop-i
invariant-loop-i l = l.replies.items ≡ l.fn.replies.items ++ number_replies (map (λ v. v.items) l.popped) l.total l.i
