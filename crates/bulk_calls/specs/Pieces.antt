-- The pieces of a batch: how it is cut into them, what each owes, and what is kept meanwhile.
use Rattle.std.specs.Prelude.{◌≡◌, ℕ, Bool, List, map}
use Rattle.key_sets.specs.Keys.{StrictlyAscends}
use Rattle.key_sets.specs.Groups.{group_of}
use Rattle.keyed_pieces.specs.Keyed.{after_each, replies_to_each}
use Rattle.keyed_pieces.specs.Ranges.{ranges}
use Rattle.bulk_calls.specs.declared.piece.KeyOp.{KeyOp}
use Rattle.bulk_calls.specs.declared.piece.Piece.{Piece}
use Rattle.bulk_calls.specs.declared.piece.Served.{Served}
use Rattle.bulk_calls.specs.declared.piece.Rest.{Rest}
use Rattle.bulk_calls.specs.Views.{BulkView}
use Rattle.bulk_calls.specs.Singles.{after_one, answer_to, singles}

-- the out has the keys of its range after the piece's operations, and the answers to them
pub record Meets (piece : Piece) (served : Served) : Type 0 where
  pub keys : served.forest.keys ≡ after_each after_one piece.forest.keys piece.operations.items
  pub answers : served.answers.items ≡ replies_to_each after_one answer_to piece.forest.keys piece.operations.items

-- the keys of the ranges of pieces, and their operations
abbrev pub ranges_of : List Piece → List (List ℕ)
ranges_of pieces = map (λ piece. piece.forest.keys) pieces

abbrev pub operations_of : List Piece → List (List KeyOp)
operations_of pieces = map (λ piece. piece.operations.items) pieces

-- the keys of the ranges afterwards, and the answers
abbrev pub ranges_after : List Served → List (List ℕ)
ranges_after outs = map (λ out. out.forest.keys) outs

abbrev pub answers_of : List Served → List (List Bool)
answers_of outs = map (λ out. out.answers.items) outs

-- The pieces of a set and of operations: some starts cut both into ranges, each piece has its range of both, and
-- `groups` has the number of the range of each operation.
pub record IsCut (set : List ℕ) (operations : List KeyOp) (groups : List ℕ) (pieces : List Piece) : Type 0 where
  pub starts : List ℕ
  pub groups_are : groups ≡ map (λ (operation : KeyOp). group_of operation.key starts) operations
  pub ranges_are : ranges_of pieces ≡ ranges (λ key. key) starts set
  pub operations_are : operations_of pieces ≡ ranges (λ (operation : KeyOp). operation.key) starts operations

-- the rest keeps the range of each single key of these calls, where `pieces` are the pieces of the set and of these keys;
-- the keys of the set strictly ascend
pub record IsContextOf (rest : Rest) (set : List ℕ) (calls : List BulkView) (pieces : List Piece) : Type 0 where
  pub ascends : StrictlyAscends set
  pub cut : IsCut set (singles calls) rest.groups.items pieces
