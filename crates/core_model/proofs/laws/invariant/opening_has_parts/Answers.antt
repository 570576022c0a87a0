use Rattle.core_model.proofs.InvariantLemmas.Opening.{opening_kept}
use Rattle.core_model.proofs.Inductive.PartsHold.{parts_stand}
use Rattle.core_model.specs.State.{opening_state}
use Rattle.core_model.proofs.laws.invariant.opening_has_parts.Goals as goal

pub returns : goal.returns
returns c job laws root = parts_stand job opening_state (opening_kept job laws root)
