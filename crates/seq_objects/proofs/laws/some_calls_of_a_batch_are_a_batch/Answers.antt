use Rattle.seq_objects.proofs.Filters.{some_are_a_batch, are_of}
use Rattle.seq_objects.proofs.Numbers.{are_at}
use Rattle.seq_objects.proofs.laws.some_calls_of_a_batch_are_a_batch.Goals as goal

pub returns-clause-batch : goal.returns-clause-batch
returns-clause-batch c = some_are_a_batch

pub returns-clause-of : goal.returns-clause-of
returns-clause-of c = are_of

pub returns-clause-at : goal.returns-clause-at
returns-clause-at c = are_at
