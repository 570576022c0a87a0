use Rattle.seq_objects.proofs.Bags.{copies_with}
use Rattle.seq_objects.proofs.Members.{copies_taken, least_is_least}
use Rattle.seq_objects.proofs.laws.bag_counts_its_copies.Goals as goal

pub returns-clause-insert : goal.returns-clause-insert
returns-clause-insert c item n bag = copies_with n item bag

pub returns-clause-take : goal.returns-clause-take
returns-clause-take c = copies_taken

pub returns-clause-least : goal.returns-clause-least
returns-clause-least c = least_is_least
