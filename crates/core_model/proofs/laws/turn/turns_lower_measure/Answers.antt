use Rattle.core_model.proofs.ChoiceLemmas.Choices.{choice_needs}
use Rattle.core_model.proofs.MeasureLemmas.Lowers.{turn_lowers}
use Rattle.core_model.proofs.Inductive.FromParts.{parts_carried}
use Rattle.core_model.proofs.laws.turn.turns_lower_measure.Goals as goal

pub returns : goal.returns
returns c job state worker event new laws sources among inv chosen does =
    let parts = parts_carried job state.state inv.parts in
    turn_lowers job state worker event new laws among parts chosen (choice_needs job state worker event laws sources among parts inv.lists chosen) does
