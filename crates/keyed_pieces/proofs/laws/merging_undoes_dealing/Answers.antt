use Rattle.keyed_pieces.proofs.Apart.{merged_back, have_dealt}
use Rattle.keyed_pieces.proofs.laws.merging_undoes_dealing.Goals as goal

pub returns-clause-merged : goal.returns-clause-merged
returns-clause-merged g c = merged_back

pub returns-clause-replied : goal.returns-clause-replied
returns-clause-replied g c = have_dealt
