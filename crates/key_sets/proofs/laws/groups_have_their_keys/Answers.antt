use Rattle.key_sets.proofs.GroupLemmas.Counting.{group_within}
use Rattle.key_sets.proofs.GroupLemmas.Cutting.{all_from_0}
use Rattle.key_sets.proofs.GroupLemmas.Placing.{key_in_group, in_ranges}
use Rattle.key_sets.proofs.laws.groups_have_their_keys.Goals as goal

pub returns-clause-each : goal.returns-clause-each
returns-clause-each c = λ size key keys groups some up are there. key_in_group size keys groups key some up are there

pub returns-clause-below : goal.returns-clause-below
returns-clause-below c = group_within

pub returns-clause-ranges : goal.returns-clause-ranges
returns-clause-ranges c = λ size keys groups some up are. in_ranges size 0 keys groups some up (all_from_0 keys) are
