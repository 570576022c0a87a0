use Rattle.seq_objects.proofs.Classes.{lower_first}
use Rattle.seq_objects.proofs.laws.lower_classes_come_first.Goals as goal

pub returns : goal.returns
returns c = lower_first
