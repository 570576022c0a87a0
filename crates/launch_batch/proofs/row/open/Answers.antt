use Rattle.std.proofs.Common.{◌≡◌, length, ap, sym, ◌∙◌, arith}
use Rattle.std.proofs.lemmas.Bool.Decides.{nat_tests}
use Rattle.seq_objects.specs.Batches.{kind_of, same_kind, calls_of}
use Rattle.seq_objects.proofs.Filters.{some_are_a_batch}
use Rattle.launch_batch.proofs.BatchLemmas.Beginning.{none_opened}
use Rattle.launch_batch.proofs.row.open.Goals as goal

pub returns-then-is_empty : goal.returns-then-is_empty
returns-then-is_empty g c =
    let none : length c.in_ok-calls.calls.now ≡ 0 = let empty = c.is_empty.ensures in let is = c.if-is_empty.true in grind (arith, nat_tests) in
    none_opened g.T.Batched.content g.T.Batched.is_context_of g.T.Batched.cut g.T.Batched.MOST g.T.Kind.at c.args.first c.args.row.now (calls_of g.T.Kind.kind c.args.calls.now) c.args.pieces.now.items
    c.requires.closed (ap length (sym c.in_ok-calls.ensures) ∙ none)

pub open_row-requires-clause-batch : goal.open_row-requires-clause-batch
open_row-requires-clause-batch g c = λ lifetimes bounds some.
    rw c.in_ok-calls.ensures
    (some_are_a_batch (λ call. same_kind g.T.Kind.kind (kind_of call.op)) c.args.calls.now c.requires.batch (rw c.in_ok-calls.ensures at some))

pub place-requires-after_bounds : goal.place-requires-after_bounds
place-requires-after_bounds g c = λ lifetimes bounds.
    omega (arith, c.requires.fit, c.in_ok-ins.ensures.most)

pub returns : goal.returns
returns g c = record {
  ins = c.in_ok-ins.ins.items;
  behind = c.in_ok-place.ensures;
  few = c.in_ok-ins.ensures.most;
  some = rw c.in_ok-calls.ensures at c.in_ok-ins.ensures.some;
  are_cut = rw c.in_ok-calls.ensures at c.in_ok-ins.ensures.cut;
  context = rw c.in_ok-calls.ensures at c.in_ok-ins.ensures.context;
}
