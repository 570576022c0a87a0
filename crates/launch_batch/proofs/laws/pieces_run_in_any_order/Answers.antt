use Rattle.launch_batch.proofs.LawLemmas.AnyOrder.{some_outs, all_meet}
use Rattle.launch_batch.proofs.laws.pieces_run_in_any_order.Goals as goal

pub returns-clause-some : goal.returns-clause-some
returns-clause-some c = some_outs

pub returns-clause-meet : goal.returns-clause-meet
returns-clause-meet c = all_meet
