use Rattle.std.proofs.Common.{◌≡◌, ◌≤◌, ◌-◌, length, take, drop}
use Rattle.object_rows.specs.Numbers.{numbers_of}
use Rattle.object_rows.specs.Code.Dealt.{dealt_to}
use Rattle.object_rows.proofs.Opening.{AreOpened}
use Rattle.object_rows.proofs.open.open_several.Given as goal

-- the structures of the numbers so far are open, and the calls from `from` on are dealt to the others
abbrev pub invariant-loop-from : goal.invariant-loop-from
invariant-loop-from g l = record {
  opened : AreOpened g.T.Batched.content g.T.Batched.is_context_of g.T.Batched.cut g.T.Batched.MOST l.initial.row l.calls l.row (take (length l.row.called.items) (numbers_of l.calls)) l.rows.items;
  left : drop l.from l.dealt.items ≡ dealt_to (drop (length l.row.called.items) (numbers_of l.calls)) l.calls;
  within : l.from ≤ length l.dealt.items;
}

abbrev pub decreases-loop-from : goal.decreases-loop-from
decreases-loop-from g l = length l.dealt.items - l.from
