use Rattle.std.proofs.Common.{◌≡◌, ◌+◌, length, drop}
use Rattle.object_rows.specs.Code.Dealt.{put_at}
use Rattle.object_rows.proofs.replies.put_last.Given as goal

-- the replies that are left, put at their places among those so far
abbrev pub invariant-loop-index : goal.invariant-loop-index
invariant-loop-index l = record {
  put : put_at (drop (l.first + l.index) l.dealt.items) (drop l.index l.own) l.replies.items ≡ put_at (drop l.first l.dealt.items) l.own l.initial.replies.items;
  long : length l.replies.items ≡ length l.initial.replies.items;
}
