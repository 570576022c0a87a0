-- Histories with room reserved in advance.
use Rattle.std.specs.Prelude.{List, ℕ}
use Rattle.batch_history.specs.declared.batch.Entry.{Entry}

-- the contracts' view: the batches, and the total number of batches there is room for
pub record ReservedView : Type 0 where
  pub batches : List (List Entry)
  pub capacity : ℕ
