use Rattle.core_model.proofs.Inductive.FromParts.{parts_carried}
use Rattle.core_model.proofs.BookLemmas.Sources.{source_valued}
use Rattle.core_model.proofs.laws.book.started_leaf_has_its_source.Goals as goal

pub returns : goal.returns
returns c job state worker node leaf source sources parts started of =
    source_valued job state sources (parts_carried job state parts) worker node started.1 leaf source started.2 started.0 of
