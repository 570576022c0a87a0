use Rattle.std.proofs.Common.{◌≡◌, ◌<◌, length, ap, sym, ◌∙◌, arith}
use Rattle.std.proofs.lemmas.Bool.Decides.{nat_tests}
use Rattle.seq_objects.specs.Batches.{kind_of, same_kind, calls_of}
use Rattle.seq_objects.proofs.Filters.{some_are_a_batch}
use Rattle.launch_batch.proofs.BatchLemmas.Closing.{none_behind, served_behind}
use Rattle.launch_batch.proofs.row.serve.Goals as goal

pub returns-then-is_empty : goal.returns-then-is_empty
returns-then-is_empty g c =
    let none : length c.in_ok-calls.calls.now ≡ 0 = let empty = c.is_empty.ensures in let is = c.if-is_empty.true in grind (arith, nat_tests) in
    none_behind g.T.Batched.content c.args.row.now (calls_of g.T.Kind.kind c.args.calls.now) c.args.replies.now.items c.requires.closed (ap length (sym c.in_ok-calls.ensures) ∙ none)

pub serve_row-requires-clause-some : goal.serve_row-requires-clause-some
serve_row-requires-clause-some g c = λ lifetimes bounds. let empty = c.is_empty.ensures in let is = c.if-is_empty.false in grind (arith, nat_tests)

pub serve_row-requires-clause-batch : goal.serve_row-requires-clause-batch
serve_row-requires-clause-batch g c = λ lifetimes bounds.
    let some : 0 < length c.in_ok-calls.calls.now = let empty = c.is_empty.ensures in let is = c.if-is_empty.false in grind (arith, nat_tests) in
    rw c.in_ok-calls.ensures
    (some_are_a_batch (λ call. same_kind g.T.Kind.kind (kind_of call.op)) c.args.calls.now c.requires.batch (rw c.in_ok-calls.ensures at some))

pub returns : goal.returns
returns g c =
    rw (sym c.in_ok-calls.ensures) (served_behind g.T.Batched.content _ _ _ c.in_ok-told.told.items _ _
    c.in_ok-told.ensures c.in_ok-put_behind.ensures)
