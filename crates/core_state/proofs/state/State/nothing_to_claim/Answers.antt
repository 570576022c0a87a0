use Rattle.std.proofs.Common.{sym}
use Rattle.core_state.specs.Abstraction.{ready_of}
use Rattle.core_state.proofs.ChoiceLemmas.Steals.{none_to_claim}
use Rattle.core_state.proofs.state.State.nothing_to_claim.Goals as goal

pub returns : goal.returns
unfolding ready_of
returns c = λ empty. sym (none_to_claim (ready_of c.args.self.now) c.args.workers c.args.worker (c.are_empty.ensures empty))
