use Rattle.launch_batch.proofs.LawLemmas.OneService.{one_service}
use Rattle.launch_batch.proofs.laws.a_service_is_one.Goals as goal

pub returns : goal.returns
returns c = one_service
