use Rattle.core_model.proofs.InvariantLemmas.Reached.{opening_invariant}
use Rattle.core_model.proofs.laws.invariant.opening_has_invariant.Goals as goal

pub returns : goal.returns
returns c job laws root some = opening_invariant job laws root some
