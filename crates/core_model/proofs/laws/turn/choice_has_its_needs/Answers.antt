use Rattle.core_model.proofs.ChoiceLemmas.Choices.{choice_needs}
use Rattle.core_model.proofs.Inductive.FromParts.{parts_carried}
use Rattle.core_model.proofs.laws.turn.choice_has_its_needs.Goals as goal

pub returns : goal.returns
returns c job state worker event laws sources among inv chosen = choice_needs job state worker event laws sources among (parts_carried job state.state inv.parts) inv.lists chosen
