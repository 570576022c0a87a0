use Rattle.worker_turns.proofs.MeaningLemmas.Trapped.{piece_means}
use Rattle.worker_turns.proofs.laws.trapped.piece_comes_where_one_was_finished_and_none_posted.Goals as goal

pub returns : goal.returns
returns c = piece_means
