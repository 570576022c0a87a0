use Rattle.seq_objects.proofs.Numbers.{others_stay, most_are_opening}
use Rattle.seq_objects.proofs.laws.most_numbers_are_opening.Goals as goal

pub returns-clause-others : goal.returns-clause-others
returns-clause-others c = others_stay

pub returns-clause-finite : goal.returns-clause-finite
returns-clause-finite c = most_are_opening
