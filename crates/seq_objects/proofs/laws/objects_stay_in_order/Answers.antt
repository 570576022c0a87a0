use Rattle.seq_objects.proofs.Members.{stay_in_order}
use Rattle.seq_objects.proofs.laws.objects_stay_in_order.Goals as goal

pub returns-clause-opening : goal.returns-clause-opening
returns-clause-opening c = record { set = tt; bag = tt }

pub returns-clause-after : goal.returns-clause-after
returns-clause-after c = stay_in_order
