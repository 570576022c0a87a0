use Rattle.worker_turns.proofs.MeaningLemmas.Trapped.{left_means}
use Rattle.worker_turns.proofs.laws.trapped.left_comes_with_the_receipt_of_the_leave.Goals as goal

pub returns : goal.returns
returns c = left_means
