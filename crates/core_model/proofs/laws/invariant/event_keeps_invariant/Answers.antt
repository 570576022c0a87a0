use Rattle.core_model.proofs.Inductive.FromParts.{event_keeps_all}
use Rattle.core_model.proofs.laws.invariant.event_keeps_invariant.Goals as goal

pub returns : goal.returns
returns c = event_keeps_all
