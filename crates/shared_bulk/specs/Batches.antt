-- A batch of operations that is served in pieces.
use Rattle.std.specs.Prelude.{◌≡◌, ℕ, List}
use Rattle.bulk_calls.specs.declared.piece.Piece.{Piece}
use Rattle.bulk_calls.specs.Views.{BulkView}
use Rattle.bulk_calls.specs.Bulk.{operations}
use Rattle.bulk_calls.specs.Batches.{in_batch_order}
use Rattle.bulk_calls.specs.Pieces.{IsContextOf}
use Rattle.shared_bulk.specs.declared.bulk.BatchRest.{BatchRest}

-- the rest keeps the calls that ask these operations, in batch order, and what the set keeps that is cut into these pieces
pub record IsBatchOf (rest : BatchRest) (set : List ℕ) (ops : List BulkView) (pieces : List Piece) : Type 0 where
  pub calls_are : rest.calls.items ≡ in_batch_order ops
  pub context : IsContextOf rest.rest set (operations rest.calls.items) pieces
