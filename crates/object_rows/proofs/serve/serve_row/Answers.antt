use Rattle.std.proofs.Common.{subst}
use Rattle.object_rows.proofs.Serving.{served_alone}
use Rattle.object_rows.proofs.serve.serve_row.Goals as goal

pub serve_one-requires-clause-may : goal.serve_one-requires-clause-may
serve_one-requires-clause-may g c = λ lifetimes bounds structure is.
    subst (g.T.Batched.may_serve structure) (c.are_all_at.ensures c.if-are_all_at.true) (c.requires.may c.number-first.result structure is)

pub returns-then-are_all_at : goal.returns-then-are_all_at
returns-then-are_all_at g c =
    served_alone g.T.Batched.content c.args.row.now _ c.args.calls.now c.number-first.result c.in_ok-told.told.items c.requires.some (c.are_all_at.ensures c.if-are_all_at.true) c.requires.closed
    (c.in_ok-told.ensures c.args.calls.now (c.are_all_at.ensures c.if-are_all_at.true))
