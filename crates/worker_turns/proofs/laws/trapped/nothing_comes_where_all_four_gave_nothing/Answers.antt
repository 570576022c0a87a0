use Rattle.worker_turns.proofs.MeaningLemmas.Trapped.{nothing_means}
use Rattle.worker_turns.proofs.laws.trapped.nothing_comes_where_all_four_gave_nothing.Goals as goal

pub returns : goal.returns
returns c = nothing_means
