use Rattle.std.proofs.Common.{◌≡◌, ◌∙◌, ap, sym, subst, length}
use Rattle.keyed_pieces.specs.Dealing.{HaveReplies}
use Rattle.bulk_calls.specs.Bulk.{operations}
use Rattle.bulk_calls.specs.Pieces.{answers_of}
use Rattle.bulk_calls.specs.Singles.{singles, chopped}
use Rattle.bulk_calls.proofs.RangeLemmas.{are_answered}
use Rattle.bulk_calls.proofs.BatchLemmas.{batch_served}
use Rattle.bulk_calls.proofs.set.BulkSet.end.Goals as goal

pub join_outs-requires-clause-ascend : goal.join_outs-requires-clause-ascend
join_outs-requires-clause-ascend c =
    let r = c.requires in
    (batch_served c.args.rest r.0 (operations c.args.calls.now) r.1 c.args.outs.items r.2 r.3).ascends

pub join_outs-requires-clause-answered : goal.join_outs-requires-clause-answered
join_outs-requires-clause-answered c =
    let r = c.requires in
    let groups = c.args.rest.groups.items in
    let answers = answers_of c.args.outs.items in
    let answered = are_answered r.0 (singles (operations c.args.calls.now)) groups r.1 c.args.outs.items r.2.cut r.3 in
    subst (λ gs. HaveReplies gs answers) (sym c.deref.ensures.value) (c.dealing_is_by_range.ensures.replied groups answers answered.below answered.enough)

pub replies_of-requires : goal.replies_of-requires
replies_of-requires c =
    let r = c.requires in
    let served = batch_served c.args.rest r.0 (operations c.args.calls.now) r.1 c.args.outs.items r.2 r.3 in
    rw (c.deref-2.ensures.value, c.in_ok-forest.ensures.answers, c.deref.ensures.value) served.long

pub returns-clause-set : goal.returns-clause-set
returns-clause-set c set pieces context met =
    let served = batch_served c.args.rest set (operations c.args.calls.now) pieces c.args.outs.items context met in
    c.in_ok-forest.ensures.keys ∙ served.set_is

pub returns-clause-replies : goal.returns-clause-replies
returns-clause-replies c set pieces context met =
    let calls = operations c.args.calls.now in
    let served = batch_served c.args.rest set calls pieces c.args.outs.items context met in
    let answers = rw (c.in_ok-forest.ensures.answers, c.deref.ensures.value) at c.deref-2.ensures.value in
    c.in_ok-replies.ensures ∙ ap (chopped calls) answers ∙ served.replies_are
