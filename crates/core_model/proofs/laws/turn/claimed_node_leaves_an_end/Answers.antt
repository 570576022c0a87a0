use Rattle.core_model.proofs.ChoiceLemmas.Ready.{choice_ready}
use Rattle.core_model.proofs.Inductive.FromParts.{parts_carried}
use Rattle.core_model.proofs.laws.turn.claimed_node_leaves_an_end.Goals as goal

pub returns : goal.returns
returns c job state worker node laws sources among inv chosen = choice_ready job state worker node laws sources among (parts_carried job state.state inv.parts) inv.lists chosen
