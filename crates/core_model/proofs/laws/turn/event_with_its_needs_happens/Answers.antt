use Rattle.core_model.proofs.Inductive.FromParts.{parts_carried}
use Rattle.core_model.proofs.RunLemmas.Existence.{happens_some}
use Rattle.core_model.proofs.laws.turn.event_with_its_needs_happens.Goals as goal

pub returns : goal.returns
returns c job state worker event sources parts among needs = happens_some job state worker event sources (parts_carried job state parts) among needs
