use Rattle.std.proofs.Common.{◌≡◌, length}
use Rattle.object_rows.proofs.replies.empty_replies.Given as goal

abbrev pub invariant-loop-place : goal.invariant-loop-place
invariant-loop-place l = length l.replies.items ≡ l._place
