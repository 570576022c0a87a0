use Rattle.core_model.proofs.Inductive.FromParts.{parts_carried}
use Rattle.core_model.proofs.ChoiceLemmas.NextActs.{mark_low}
use Rattle.core_model.proofs.laws.invariant.mark_before_arrival_is_below_two.Goals as goal

pub returns : goal.returns
returns c job state worker p l r n laws parts mine kind side = mark_low job state worker p l r n laws (parts_carried job state parts) mine kind side
