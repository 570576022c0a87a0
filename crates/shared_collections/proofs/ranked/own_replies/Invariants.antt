use Rattle.std.proofs.Common.{◌≡◌, ◌++◌, drop}
use Rattle.shared_collections.specs.Code.Maps.{own_replies, AreSmallReplies}
use Rattle.shared_collections.proofs.ranked.own_replies.Given as goal

-- the replies so far, followed by those that are left, are all replies
abbrev pub invariant-loop-i : goal.invariant-loop-i
invariant-loop-i l = record {
  all : l.all.items ++ own_replies (drop l.i l.calls) (drop l.i l.replies) ≡ own_replies l.calls l.replies;
  small : AreSmallReplies (drop l.i l.calls) (drop l.i l.replies);
}
