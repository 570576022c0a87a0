-- The opening of one kind's structures, whose pieces stand in the kind's row of places.
use Rattle.std.specs.Prelude.{ℕ, ◌≡◌, ◌<◌, ◌≤◌, List, ◌++◌, length}
use Rattle.seq_objects.specs.declared.call.Call.{Call}
use Rattle.seq_objects.specs.Objects.{Objects}
use Rattle.seq_objects.specs.Pieces.{BatchContext}
use Rattle.object_rows.specs.declared.members.Members.{Members}
use Rattle.object_rows.specs.declared.row.Row.{Row}
use Rattle.object_rows.specs.Contents.{store_of}
use Rattle.object_rows.specs.Contexts.{IsRowContextOf}
use Rattle.object_rows.specs.Cuts.{AreCut}
use Rattle.launch_batch.specs.declared.piece.PieceIn.{PieceIn}
use Rattle.launch_batch.specs.ByStructure.{placed}

-- The structures that these calls of their kind call are open. Their pieces, at most `most`, stand behind the earlier
-- ones, at consecutive places from `first` on.
pub record OpensOwn {T R In : Type 0} (content : T → Objects) (is_context_of : R → BatchContext T In → Type 0)
    (cut : T → List Call → List In → Type 0) (most : ℕ) (make : ℕ → Members In → PieceIn) (first : ℕ)
    (was now : Row T R) (calls : List Call) (earlier pieces : List PieceIn) : Type 0 where
  pub ins : List (Members In)
  pub behind : pieces ≡ earlier ++ placed make first ins
  pub few : length ins ≤ most
  pub some : 0 < length calls → 1 ≤ length ins
  pub are_cut : AreCut content cut (store_of content was.closed) calls ins
  pub context : IsRowContextOf content is_context_of now
      (record { before = store_of content was.closed; calls = calls; ins = ins })
