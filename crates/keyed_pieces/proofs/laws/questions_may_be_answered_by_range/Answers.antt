use Rattle.keyed_pieces.proofs.Service.{questions_merged}
use Rattle.keyed_pieces.proofs.laws.questions_may_be_answered_by_range.Goals as goal

pub returns : goal.returns
returns g c = questions_merged
