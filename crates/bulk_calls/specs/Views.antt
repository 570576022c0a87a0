-- Bulk operations and calls as contracts see them.
use Rattle.std.specs.Prelude.{ℕ, List}
use Rattle.bulk_calls.specs.declared.op.BulkKind.{BulkKind}

-- what is done with the keys, and the keys in their order
pub record BulkView : Type 0 where
  pub kind : BulkKind
  pub keys : List ℕ

-- an operation, and the worker that calls it
pub record CallView : Type 0 where
  pub worker : ℕ
  pub what : BulkView
