use Rattle.core_model.proofs.Inductive.FromParts.{event_keeps_parts}
use Rattle.core_model.proofs.laws.invariant.event_keeps_parts.Goals as goal

pub returns-clause-event : goal.returns-clause-event
returns-clause-event c = event_keeps_parts

pub returns-clause-kind : goal.returns-clause-kind
returns-clause-kind c job old new worker kind laws parts is = event_keeps_parts job old new worker is.event laws parts is.happens
