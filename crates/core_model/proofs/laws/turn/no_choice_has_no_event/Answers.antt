use Rattle.core_model.proofs.ChoiceLemmas.Choices.{none_has_no_event}
use Rattle.core_model.proofs.Inductive.FromParts.{parts_carried}
use Rattle.core_model.proofs.laws.turn.no_choice_has_no_event.Goals as goal

pub returns : goal.returns
returns c job state worker laws sources among inv none event needs = none_has_no_event job state worker laws sources among (parts_carried job state.state inv.parts) inv.lists none event needs
