-- The pieces of a batch: the addends of consecutive calls.
use Rattle.std.specs.Prelude.{◌≡◌, ℕ, ◌+◌, ◌<◌, ◌/◌, List, [], ◌∷◌, length, take, drop}
use Rattle.std.specs.Int.{div_ceil}
use Rattle.seq_objects.specs.declared.call.Call.{Call}
use Rattle.seq_objects.specs.Objects.{Objects}
use Rattle.seq_objects.specs.Pieces.{BatchContext}
use Rattle.batched_counter.specs.declared.piece.Piece.{Piece}
use Rattle.batched_counter.specs.declared.piece.Served.{Served}
use Rattle.batched_counter.specs.declared.piece.Rest.{Rest}
use Rattle.batched_counter.specs.Sums.{total, sums_from}
use Rattle.batched_counter.specs.Calls.{addends, MayServe}

-- the addends of each piece
abbrev pub addends_in : List Piece → List (List ℕ)
addends_in [] = []
addends_in (piece ∷ pieces) = piece.addends.items ∷ addends_in pieces

-- the pieces are the list, cut after every `size` elements; none is empty
abbrev pub IsCutInto : ℕ → List ℕ → List (List ℕ) → Type 0
IsCutInto size xs [] = xs ≡ []
IsCutInto size xs (piece ∷ pieces) =
    (0 < length xs) × (piece ≡ take size xs) × IsCutInto size (drop size xs) pieces

-- each piece but the last has a sixteenth of the calls, rounded up; the last may have fewer
abbrev pub Cut : ℕ → List Call → List Piece → Type 0
Cut number calls ins = IsCutInto ((length calls + 15) / 16) (addends calls) (addends_in ins)

-- the number of calls divided by the size of a piece, rounded up; the law `cut_fixes_the_number_of_pieces` equates it
-- with the length of each `Cut`
abbrev pub piece_count : Objects → List Call → ℕ
piece_count objects calls = div_ceil (length calls) ((length calls + 15) / 16)

-- the out has the piece's prefix sums, each including its own addend, and the piece's total
pub record Meets (piece : Piece) (out : Served) : Type 0 where
  pub prefixes : out.prefixes.items ≡ sums_from 0 piece.addends.items
  pub total : out.total ≡ total piece.addends.items

-- the rest keeps the number before the batch; that batch can be served, and its pieces are a `Cut` of it
pub record IsContextOf (rest : Rest) (o : BatchContext ℕ Piece) : Type 0 where
  pub number : o.before ≡ rest.number
  pub may : MayServe o.before o.calls
  pub cut : Cut o.before o.calls o.ins
