use Rattle.core_model.proofs.BookLemmas.Sources.{source_argument}
use Rattle.core_model.proofs.laws.book.sources_come_first.Goals as goal

pub returns-clause-argument : goal.returns-clause-argument
returns-clause-argument c job state leaf source later parts of at = source_argument job state leaf source later parts of at

pub returns-clause-earlier : goal.returns-clause-earlier
returns-clause-earlier c job state leaf source origin later parts of from at = parts.book.sources leaf source origin later of from at
