use Rattle.std.proofs.Common.{◌≡◌, length, map}
use Rattle.seq_objects.specs.Pieces.{AllMeet}
use Rattle.object_rows.specs.Rows.{members, MembersMeet}
use Rattle.object_rows.specs.Contexts.{RowContext, IsRowContextOf}
use Rattle.object_rows.specs.Code.Dealt.{dealt_to}
use Rattle.object_rows.proofs.Closing.{AreClosing}
use Rattle.object_rows.proofs.close.close_row.Given as goal

-- the structures that are no longer open have served their calls
abbrev pub invariant-loop-called : goal.invariant-loop-called
invariant-loop-called g l =
    (o : RowContext g.row.T-In.Denot) → IsRowContextOf g.T.Batched.content g.T.Batched.is_context_of l.initial.row o → o.calls ≡ l.calls
    → AllMeet (MembersMeet g.T.Batched.meets) o.ins l.initial.rows.items
    → AreClosing g.T.Batched.content g.T.Batched.is_context_of g.T.Batched.meets o l.row (members l.rows.items) l.replies.items
    × (l.dealt.items ≡ dealt_to (map (λ called. called.number) l.row.called.items) l.calls)

abbrev pub decreases-loop-called : goal.decreases-loop-called
decreases-loop-called g l = length l.row.called.items
