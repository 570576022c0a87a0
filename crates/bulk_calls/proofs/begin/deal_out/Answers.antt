use Rattle.std.proofs.Common.{◌∙◌}
use Rattle.bulk_calls.proofs.RangeLemmas.{key_of, dealt_below}
use Rattle.bulk_calls.proofs.begin.deal_out.Goals as goal

pub deal-requires-clause-below : goal.deal-requires-clause-below
deal-requires-clause-below c = rw (c.deref.ensures.value, c.in_ok-groups.ensures) (dealt_below c.args.starts.now c.args.operations.now)

pub returns-clause-dealt : goal.returns-clause-dealt
returns-clause-dealt c =
    let dealt = rw (c.deref.ensures.value, c.in_ok-groups.ensures) at c.in_ok-dealt.ensures in
    dealt ∙ c.dealing_is_by_range.ensures.dealt key_of c.args.starts.now c.args.operations.now
