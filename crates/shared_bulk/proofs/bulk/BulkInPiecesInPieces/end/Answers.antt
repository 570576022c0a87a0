use Rattle.std.proofs.Common.{◌∙◌, ap, length, sym, subst}
use Rattle.bulk_calls.specs.Bulk.{bulk_after, bulk_replies, operations}
use Rattle.bulk_calls.specs.Pieces.{Meets, IsContextOf}
use Rattle.shared_calls.specs.Serial.{IsServedInSomeOrder}
use Rattle.shared_collections.specs.Bulks.{bulk_set}
use Rattle.shared_collections.proofs.BulkServing.{as_many}
use Rattle.shared_bulk.proofs.Meeting.{all_meet}
use Rattle.shared_bulk.proofs.bulk.BulkInPiecesInPieces.end.Goals as goal

pub end-requires : goal.end-requires
end-requires c =
    let r = c.requires.met in
    let o = r.0 in
    (o.before.set, o.ins, subst (λ calls. IsContextOf c.args.rest.rest o.before.set (operations calls) o.ins) (sym c.deref.ensures.value) r.1.context, all_meet Meets o.ins c.args.outs.items r.2)

pub in_operation_order-requires-clause-calls : goal.in_operation_order-requires-clause-calls
in_operation_order-requires-clause-calls c =
    let r = c.requires.met in
    (r.0.ops, c.deref-2.ensures.value ∙ r.1.calls_are)

pub in_operation_order-requires-clause-count : goal.in_operation_order-requires-clause-count
in_operation_order-requires-clause-count c =
    let r = c.requires.met in
    let o = r.0 in
    let calls = c.deref.result.now in
    let context = subst (λ calls. IsContextOf c.args.rest.rest o.before.set (operations calls) o.ins) (sym c.deref.ensures.value) r.1.context in
    let own = c.in_ok-set.ensures.replies o.before.set o.ins context (all_meet Meets o.ins c.args.outs.items r.2) in
    ap length own ∙ (as_many o.before.set calls ∙ ap length (c.deref.ensures.value ∙ sym c.deref-2.ensures.value))

pub returns-clause-served : goal.returns-clause-served
returns-clause-served c o is met =
    let context = subst (λ calls. IsContextOf c.args.rest.rest o.before.set (operations calls) o.ins) (sym c.deref.ensures.value) is.context in
    let meet = all_meet Meets o.ins c.args.outs.items met in
    let same = c.deref.ensures.value ∙ sym c.deref-2.ensures.value in
    let own = c.in_ok-set.ensures.replies o.before.set o.ins context meet ∙ ap (λ calls. bulk_replies o.before.set (operations calls)) same in
    let after = c.in_ok-set.ensures.set o.before.set o.ins context meet ∙ ap (λ calls. bulk_after o.before.set (operations calls)) same in
    let served = c.in_ok-replies.ensures o.before.set o.ops (c.deref-2.ensures.value ∙ is.calls_are) own in
    subst (IsServedInSomeOrder bulk_set o.before.set o.ops c.in_ok-replies.replies.items) (sym after) served
