use Rattle.keyed_pieces.proofs.Apart.{range_replies}
use Rattle.keyed_pieces.proofs.laws.each_range_replies_as_all_do.Goals as goal

pub returns : goal.returns
returns g c = range_replies
