-- The entries that a batch keeps, as a list.
use Rattle.std.specs.Prelude.{List, [], ◌∷◌}
use Rattle.batch_history.specs.declared.batch.Entry.{Entry}
use Rattle.batch_history.specs.declared.batch.Storage.{Storage}
use Rattle.batch_history.specs.declared.batch.Storage.TheVariants.{One, Many}

abbrev pub entries_in : Storage → List Entry
entries_in (One entry) = entry ∷ []
entries_in (Many entries) = entries.items
