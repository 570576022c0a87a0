use Rattle.core_model.proofs.Inductive.FromParts.{parts_carried}
use Rattle.core_model.proofs.InvariantLemmas.TickRoom.{tick_most}
use Rattle.core_model.proofs.laws.invariant.tick_is_at_most_two_a_node.Goals as goal

pub returns : goal.returns
returns c job state laws parts = tick_most job state laws (parts_carried job state parts)
