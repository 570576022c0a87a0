use Rattle.std.proofs.Common.{◌≡◌, ◌<◌, length, ap, subst, ◌∙◌, arith}
use Rattle.std.proofs.lemmas.Bool.Decides.{nat_tests}
use Rattle.seq_objects.specs.Batches.{calls_at}
use Rattle.object_rows.specs.Numbers.{numbers_of}
use Rattle.object_rows.specs.Rows.{members}
use Rattle.object_rows.proofs.Adding.{added_ones}
use Rattle.object_rows.proofs.Opening.{AreOpened, only_opened, context, are_cut, at_most, at_least, none_called}
use Rattle.object_rows.proofs.open.open_row.Goals as goal

pub returns-then-is_empty-clause-context : goal.returns-then-is_empty-clause-context
returns-then-is_empty-clause-context g c =
    none_called g.T.Batched.content g.T.Batched.is_context_of g.T.Batched.cut c.args.row.now c.args.calls.now c.new.result.items c.requires.closed c.new.ensures (let empty = c.is_empty.ensures in let is = c.if-is_empty.true in grind (arith, nat_tests))

pub open_one-requires-clause-may : goal.open_one-requires-clause-may
open_one-requires-clause-may g c = λ lifetimes bounds structure is.
    subst (g.T.Batched.may_serve structure) (c.are_all_at.ensures c.if-are_all_at.true) (c.requires.may c.number-first.result structure is)

pub returns-then-are_all_at : goal.returns-then-are_all_at
returns-then-are_all_at g c =
    let number = c.number-first.result in
    let calls = c.args.calls.now in
    let some : 0 < length calls = let empty = c.is_empty.ensures in let is = c.if-is_empty.false in grind (arith, nat_tests) in
    let one : calls_at number calls ≡ calls = c.are_all_at.ensures c.if-are_all_at.true in
    let all : AreOpened g.T.Batched.content g.T.Batched.is_context_of g.T.Batched.cut g.T.Batched.MOST c.args.row.now calls c.open_one.new.row (numbers_of calls) c.of_ones.result.items
    = only_opened g.T.Batched.content g.T.Batched.is_context_of g.T.Batched.cut g.T.Batched.MOST c.args.row.now calls c.open_one.new.row number c.in_ok-pieces.pieces.items c.of_ones.result.items
    c.requires.closed some one (c.in_ok-pieces.ensures.opens calls one) (c.in_ok-pieces.ensures.cut calls one) c.in_ok-pieces.ensures.count (ap members c.of_ones.ensures ∙ added_ones c.in_ok-pieces.pieces.items) in
    record {
      most = at_most g.T.Batched.content g.T.Batched.is_context_of g.T.Batched.cut g.T.Batched.MOST c.args.row.now calls c.open_one.new.row c.of_ones.result.items all;
      some = at_least g.T.Batched.content g.T.Batched.is_context_of g.T.Batched.cut g.T.Batched.MOST c.args.row.now calls c.open_one.new.row c.of_ones.result.items all;
      cut = are_cut g.T.Batched.content g.T.Batched.is_context_of g.T.Batched.cut g.T.Batched.MOST c.args.row.now calls c.open_one.new.row c.of_ones.result.items all;
      context = context g.T.Batched.content g.T.Batched.is_context_of g.T.Batched.cut g.T.Batched.MOST c.args.row.now calls c.open_one.new.row c.of_ones.result.items all;
    }
