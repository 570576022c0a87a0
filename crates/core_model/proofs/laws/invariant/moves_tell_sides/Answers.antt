use Rattle.core_model.proofs.InvariantLemmas.Moves.{second_side, right_side, either_side}
use Rattle.core_model.proofs.laws.invariant.moves_tell_sides.Goals as goal

pub returns-clause-second : goal.returns-clause-second
returns-clause-second c plan n p laws after = second_side plan n p laws after

pub returns-clause-parent : goal.returns-clause-parent
returns-clause-parent c plan n p laws after = right_side plan n p laws after

pub returns-clause-arrive : goal.returns-clause-arrive
returns-clause-arrive c plan n p laws after = either_side plan n p laws after
