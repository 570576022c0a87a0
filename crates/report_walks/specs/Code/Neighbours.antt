-- The walk over the entries of a batch, two neighbours at a time.
use Rattle.std.specs.Prelude.{◌≢◌, List, [], ◌∷◌}
use Rattle.seq_objects.specs.BatchOrder.{ComesFirst}
use Rattle.batch_history.specs.declared.batch.Entry.{Entry}

-- the entry comes before the first one of the list in batch order, if there is one
abbrev pub ComesBeforeFirst : Entry → List Entry → Type 0
ComesBeforeFirst entry [] = Unit {0}
ComesBeforeFirst entry (next ∷ entries) = ComesFirst entry.op entry.worker next.op next.worker

-- each entry comes before the next one in batch order
abbrev pub AreNeighbours : List Entry → Type 0
AreNeighbours [] = Unit {0}
AreNeighbours (entry ∷ entries) = ComesBeforeFirst entry entries × AreNeighbours entries

-- the entries are not empty, and each comes before the next one in batch order
pub record AreInOrder (entries : List Entry) : Type 0 where
  pub some : entries ≢ []
  pub neighbours : AreNeighbours entries
