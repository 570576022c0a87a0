use Rattle.key_sets.proofs.KeyLemmas.Members.{has_with, has_without, next_is_least}
use Rattle.seq_objects.proofs.laws.set_has_its_keys.Goals as goal

pub returns-clause-insert : goal.returns-clause-insert
returns-clause-insert c = has_with

pub returns-clause-remove : goal.returns-clause-remove
returns-clause-remove c = has_without

pub returns-clause-next : goal.returns-clause-next
returns-clause-next c = next_is_least
