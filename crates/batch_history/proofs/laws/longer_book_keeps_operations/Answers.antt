use Rattle.batch_history.proofs.ActLemmas.{value_stays, from_kept, from_source, from_calls}
use Rattle.batch_history.proofs.laws.longer_book_keeps_operations.Goals as goal

pub returns-clause-values : goal.returns-clause-values
returns-clause-values c = value_stays

pub returns-clause-stays : goal.returns-clause-stays
returns-clause-stays c = from_kept

pub returns-clause-source : goal.returns-clause-source
returns-clause-source c = from_source

pub returns-clause-calls : goal.returns-clause-calls
returns-clause-calls c = from_calls
