use Rattle.std.proofs.Common.{rules}
use Rattle.key_sets.specs.Groups.{distinct}
use Rattle.key_sets.proofs.GroupLemmas.Distinct.{distinct_ascends}
use Rattle.batched_map.specs.Maps.{keys_in}
use Rattle.batched_map.proofs.Cutting.{starts_ascend}
use Rattle.batched_map.proofs.begin.starts_of.Goals as goal

pub returns-clause-starts : goal.returns-clause-starts
returns-clause-starts c = search rules

pub returns-clause-ascends : goal.returns-clause-ascends
returns-clause-ascends c =
    starts_ascend (distinct (keys_in c.args.operations.now)) c.if-not-is_empty.starts.items (distinct_ascends (keys_in c.args.operations.now)) (returns-clause-starts c)
