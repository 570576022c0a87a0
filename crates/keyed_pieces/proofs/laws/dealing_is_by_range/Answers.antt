use Rattle.keyed_pieces.proofs.DealLemmas.{dealt_is, have_replies}
use Rattle.keyed_pieces.proofs.laws.dealing_is_by_range.Goals as goal

pub returns-clause-dealt : goal.returns-clause-dealt
returns-clause-dealt g c = dealt_is

pub returns-clause-replied : goal.returns-clause-replied
returns-clause-replied g c = have_replies
