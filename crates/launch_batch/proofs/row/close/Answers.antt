use Rattle.std.proofs.Common.{◌≡◌, [], sym, ◌∙◌, arith, append-nil}
use Rattle.std.proofs.lemmas.Bool.Decides.{nat_tests}
use Rattle.launch_batch.specs.Code.Outs.{rows_of}
use Rattle.object_rows.proofs.ListLemmas.{no_members}
use Rattle.object_rows.proofs.Closing.{none_served}
use Rattle.launch_batch.proofs.BatchLemmas.Closing.{served_behind}
use Rattle.launch_batch.proofs.row.close.Goals as goal

pub returns-then-is_empty : goal.returns-then-is_empty
returns-then-is_empty g c = λ o r same met.
    let empty : c.args.row.now.called.items ≡ [] =
    no_members c.args.row.now.called.items (λ some. let all = c.args.row.now.called.ok.0 in let e = c.is_empty.ensures in let is = c.if-is_empty.true in grind (arith, nat_tests)) in
    served_behind g.T.Batched.content c.args.row.now o.before o.calls [] c.args.replies.now.items c.args.replies.now.items
    (none_served g.T.Batched.content g.T.Batched.is_context_of g.T.Batched.meets o c.args.row.now (rows_of c.args.outs.now) r met empty) (sym (append-nil c.args.replies.now.items))

pub close_row-requires-clause-met : goal.close_row-requires-clause-met
close_row-requires-clause-met g c = λ lifetimes bounds.
    let given = c.requires.met in
    (given.0, given.1, given.2 ∙ sym c.in_ok-calls.ensures, rw c.take_rows-outs.ensures given.3)

pub returns : goal.returns
returns g c = λ o r same met.
    served_behind g.T.Batched.content _ o.before o.calls c.in_ok-told.told.items _ _
    (c.in_ok-told.ensures o r (same ∙ sym c.in_ok-calls.ensures) (rw c.take_rows-outs.ensures met)) c.in_ok-put_behind.ensures
