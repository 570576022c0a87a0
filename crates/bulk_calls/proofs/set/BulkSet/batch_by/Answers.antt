use Rattle.std.proofs.Common.{◌≡◌, ℕ, List}
use Rattle.std.proofs.lemmas.Result.{IfOk-weaker}
use Rattle.seq_objects.specs.Pieces.{AllMeet}
use Rattle.bulk_calls.specs.declared.piece.Piece.{Piece}
use Rattle.bulk_calls.specs.Bulk.{bulk_after, bulk_replies, operations}
use Rattle.bulk_calls.specs.Pieces.{Meets, IsContextOf}
use Rattle.bulk_calls.proofs.set.BulkSet.batch_by.Goals as goal

pub end-requires : goal.end-requires
end-requires g c = (c.args.self, c.in_ok-rest.pieces.items, c.in_ok-rest.ensures.remembers, c.requires.meets _ _ c.in_ok-outs.ensures)

pub returns-clause-set : goal.returns-clause-set
returns-clause-set g c =
    IfOk-weaker c.end.result (λ p. (set : List ℕ) (pieces : List Piece) → IsContextOf c.in_ok-rest.rest set (operations c.args.calls.now) pieces
    → AllMeet Meets pieces c.in_ok-outs.outs.items → p.0 ≡ bulk_after set (operations c.args.calls.now)) _
    (λ p given. given c.args.self c.in_ok-rest.pieces.items c.in_ok-rest.ensures.remembers (c.requires.meets _ _ c.in_ok-outs.ensures)) c.end.ensures.set

pub returns-clause-replies : goal.returns-clause-replies
returns-clause-replies g c =
    IfOk-weaker c.end.result (λ p. (set : List ℕ) (pieces : List Piece) → IsContextOf c.in_ok-rest.rest set (operations c.args.calls.now) pieces
    → AllMeet Meets pieces c.in_ok-outs.outs.items → p.1.items ≡ bulk_replies set (operations c.args.calls.now)) _
    (λ p given. given c.args.self c.in_ok-rest.pieces.items c.in_ok-rest.ensures.remembers (c.requires.meets _ _ c.in_ok-outs.ensures)) c.end.ensures.replies
