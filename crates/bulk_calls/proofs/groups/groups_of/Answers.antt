use Rattle.std.proofs.Common.{arith}
use Rattle.bulk_calls.proofs.GroupLemmas.{filled_rises}
use Rattle.bulk_calls.proofs.groups.groups_of.Goals as goal

pub group_among-requires-clause-rises : goal.group_among-requires-clause-rises
group_among-requires-clause-rises c =
    filled_rises c.args.starts.now c.places_of-places.result c.requires.ascend (λ i. omega (arith, c.type_inv.starts i)) c.places_of-places.ensures
