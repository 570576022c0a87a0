use Rattle.core_model.proofs.BookLemmas.Operations.{op_kept, value_kept, is_call, of_source}
use Rattle.core_model.proofs.laws.book.operations_stay.Goals as goal

pub returns-clause-values : goal.returns-clause-values
returns-clause-values c job book batch leaf value is = value_kept job book batch leaf value is

pub returns-clause-longer : goal.returns-clause-longer
returns-clause-longer c job book batch leaf op is = op_kept job book batch leaf op is

pub returns-clause-calls : goal.returns-clause-calls
returns-clause-calls c job book leaf op is = is_call job book leaf op is

pub returns-clause-source : goal.returns-clause-source
returns-clause-source c job book leaf source op is of = let found = of_source job book leaf source op is of in (found.0, found.1)
