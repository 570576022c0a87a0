use Rattle.std.proofs.Common.{arith, length}
use Rattle.key_sets.specs.Groups.{group_size}
use Rattle.key_sets.proofs.GroupLemmas.Cutting.{groups_by, groups_are, starts_again}
use Rattle.key_sets.proofs.GroupLemmas.Placing.{counted_groups, few_groups}
use Rattle.key_sets.proofs.laws.groups_are_counted.Goals as goal

pub returns-clause-count : goal.returns-clause-count
returns-clause-count c = counted_groups

pub returns-clause-few : goal.returns-clause-few
returns-clause-few c = few_groups

pub returns-clause-starts : goal.returns-clause-starts
returns-clause-starts c = λ keys starts some are. (
  groups_by (group_size (length keys)) keys starts,
  groups_are (group_size (length keys)) keys starts some are,
  starts_again (group_size (length keys)) keys starts (omega (arith, some)) are,
)
