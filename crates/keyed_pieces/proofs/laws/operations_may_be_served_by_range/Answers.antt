use Rattle.keyed_pieces.proofs.Service.{ranges_after, ranges_replies}
use Rattle.keyed_pieces.proofs.laws.operations_may_be_served_by_range.Goals as goal

pub returns-clause-after : goal.returns-clause-after
returns-clause-after g c = ranges_after

pub returns-clause-replies : goal.returns-clause-replies
returns-clause-replies g c = ranges_replies
