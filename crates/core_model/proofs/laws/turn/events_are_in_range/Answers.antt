use Rattle.core_model.proofs.InvariantLemmas.InRange.{event_in}
use Rattle.core_model.proofs.Inductive.FromParts.{parts_carried}
use Rattle.core_model.proofs.laws.turn.events_are_in_range.Goals as goal

pub returns : goal.returns
returns c job state worker event laws parts needs = event_in job state laws (parts_carried job state parts) worker event needs
