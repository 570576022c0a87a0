use Rattle.seq_objects.proofs.Bags.{same_numbers}
use Rattle.seq_objects.proofs.bag.Bag.insert.Goals as goal

pub returns-clause-ok : goal.returns-clause-ok
returns-clause-ok c = rw (← c.self.view_is) (same_numbers _ _ c.in_ok-push.ensures.permutation)
