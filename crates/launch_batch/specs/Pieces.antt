-- The pieces of a batch, what each owes, and outs that are put back in the order of their pieces.
use Rattle.std.specs.Prelude.{ℕ, ◌≡◌, ◌⊎◌, List, [], ◌∷◌}
use Rattle.seq_objects.specs.Pieces.{AllMeet}
use Rattle.batched_counter.specs.Pieces.{Meets as CounterMeets}
use Rattle.batched_stack.specs.Pieces.{Meets as StackMeets}
use Rattle.batched_tree.specs.Pieces.{Meets as TreeMeets}
use Rattle.batched_pq.specs.Pieces.{Meets as QueueMeets}
use Rattle.object_rows.specs.Rows.{MembersMeet}
use Rattle.launch_batch.specs.declared.piece.PieceIn.{PieceIn}
use Rattle.launch_batch.specs.declared.piece.PieceIn.TheVariants as piece
use Rattle.launch_batch.specs.declared.piece.PieceOut.{PieceOut}
use Rattle.launch_batch.specs.declared.piece.PieceOut.TheVariants as done

-- the place of a piece
abbrev pub place_of : PieceIn → ℕ
place_of (piece.Counter place ins) = place
place_of (piece.Stack place ins) = place
place_of (piece.Tree place ins) = place
place_of (piece.Queue place ins) = place

-- The out is of the piece's kind, and has as many members as the piece. Each of them meets the piece's member at its
-- position, by that structure's own rule.
abbrev pub Meets : PieceIn → PieceOut → Type 0
Meets (piece.Counter place ins) (done.Counter outs) = MembersMeet CounterMeets ins outs
Meets (piece.Stack place ins) (done.Stack outs) = MembersMeet StackMeets ins outs
Meets (piece.Tree place ins) (done.Tree outs) = MembersMeet TreeMeets ins outs
Meets (piece.Queue place ins) (done.Queue outs) = MembersMeet QueueMeets ins outs
Meets _ _ = ⊥

-- one run of a piece: the piece and its out
pub record Run : Type 0 where
  pub input : PieceIn
  pub out : PieceOut

-- some run of a piece with this place gave this out
abbrev pub IsOutAt : List Run → ℕ → PieceOut → Type 0
IsOutAt [] place out = ⊥
IsOutAt (run ∷ runs) place out = ((place_of run.input ≡ place) × (run.out ≡ out)) ⊎ IsOutAt runs place out

-- the outs correspond one by one to the places: each is the out of some run at its place, whatever the order of the
-- runs
abbrev pub ArePutBack : List Run → List ℕ → List PieceOut → Type 0
ArePutBack runs places outs = AllMeet (IsOutAt runs) places outs
