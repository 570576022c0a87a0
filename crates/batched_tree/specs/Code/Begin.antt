-- The pieces of a batch, described as they are cut off one after another.
use Rattle.std.specs.Prelude.{◌≡◌, ℕ, List, [], ◌∷◌, slice_get, None}
use Rattle.std.specs.declared.option.Option.{Option}
use Rattle.key_sets.specs.Splits.{below, from}
use Rattle.seq_objects.specs.declared.call.Call.{Call}
use Rattle.batched_tree.specs.declared.piece.Piece.{Piece}
use Rattle.batched_tree.specs.Code.Sides.{calls_below, calls_from}

-- the piece has exactly these keys, these calls and this `beyond`
pub record IsCutPiece (keys : List ℕ) (calls : List Call) (beyond : Option ℕ) (piece : Piece) : Type 0 where
  pub keys_are : piece.forest.keys ≡ keys
  pub calls_are : piece.calls.items ≡ calls
  pub beyond_is : piece.beyond ≡ beyond

-- the first piece has the keys and calls below the first start, and the least key from that start on as `beyond`; the
-- other pieces cut the remainder at the further starts; the last piece has no `beyond`
abbrev pub AreCutPieces : List ℕ → List Call → List ℕ → List Piece → Type 0
AreCutPieces set calls starts [] = ⊥
AreCutPieces set calls [] (piece ∷ pieces) = IsCutPiece set calls None piece × (pieces ≡ [])
AreCutPieces set calls (start ∷ starts) (piece ∷ pieces) =
    IsCutPiece (below start set) (calls_below start calls) (slice_get (from start set) 0) piece
    × AreCutPieces (from start set) (calls_from start calls) starts pieces
