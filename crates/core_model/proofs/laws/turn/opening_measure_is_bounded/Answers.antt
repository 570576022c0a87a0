use Rattle.core_model.proofs.MeasureLemmas.Lowers.{opening_fuel}
use Rattle.core_model.proofs.laws.turn.opening_measure_is_bounded.Goals as goal

pub returns : goal.returns
returns c job = opening_fuel job
