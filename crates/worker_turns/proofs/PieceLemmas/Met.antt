-- One more result was collected, which meets its piece.
use Rattle.std.proofs.Common.{◌≡◌, ℕ, ◌+◌, List, [], ◌∷◌, ◌++◌, take, sym, subst}
use Rattle.seq_objects.specs.Pieces.{AllMeet}
use Rattle.launch_batch.specs.declared.piece.PieceIn.{PieceIn}
use Rattle.launch_batch.specs.declared.piece.PieceOut.{PieceOut}
use Rattle.launch_batch.specs.Pieces.{Meets}
use Rattle.worker_turns.proofs.PieceLemmas.Collecting.{meet_more}

pub meets_push : (ins : List PieceIn) (outs after : List PieceOut) (k : ℕ) (x : PieceIn) (out : PieceOut) → take (k + 1) ins ≡ take k ins ++ x ∷ []
    → AllMeet Meets (take k ins) outs → Meets x out → after ≡ outs ++ out ∷ [] → AllMeet Meets (take (k + 1) ins) after
meets_push ins outs after k x out more all one pushed =
    subst (λ (l : List PieceIn). AllMeet Meets l after) (sym more)
    (subst (λ (l : List PieceOut). AllMeet Meets (take k ins ++ x ∷ []) l) (sym pushed) (meet_more Meets (take k ins) outs x out all one))
