use Rattle.batched_counter.proofs.BeginLemmas.Few.{few_calls}
use Rattle.batched_counter.proofs.counter.CounterBatched.begin.Goals as goal

pub pieces_of-requires-clause-few : goal.pieces_of-requires-clause-few
pieces_of-requires-clause-few c = few_calls c.args.calls.now c.requires.batch
