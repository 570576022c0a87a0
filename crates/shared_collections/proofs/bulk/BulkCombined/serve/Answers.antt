use Rattle.std.proofs.Common.{◌≡◌, ◌∙◌, ap, subst, sym}
use Rattle.bulk_calls.specs.Bulk.{operations}
use Rattle.bulk_calls.specs.Batches.{in_batch_order}
use Rattle.shared_calls.specs.Serial.{IsServedInSomeOrder}
use Rattle.shared_collections.specs.Bulks.{bulk_set}
use Rattle.shared_collections.proofs.BulkServing.{as_many}
use Rattle.shared_collections.proofs.bulk.BulkCombined.serve.Goals as goal

pub in_operation_order-requires-clause-calls : goal.in_operation_order-requires-clause-calls
in_operation_order-requires-clause-calls c =
    (c.args.ops.items, c.deref-3.ensures.value ∙ (c.in_ok-calls.ensures.order ∙ ap in_batch_order c.deref.ensures.value))

pub in_operation_order-requires-clause-count : goal.in_operation_order-requires-clause-count
in_operation_order-requires-clause-count c =
    rw (c.in_ok-set.ensures.replies, c.deref-2.ensures.value, c.deref-3.ensures.value) (as_many c.into_set.result c.in_ok-calls.calls.items)

pub returns-clause-served : goal.returns-clause-served
returns-clause-served c =
    let ops = c.args.ops.items in
    let calls = c.in_ok-calls.calls.items in
    let own = rw (c.into_set.ensures, c.deref-2.ensures.value) at c.in_ok-set.ensures.replies in
    let after = rw (c.into_set.ensures, c.deref-2.ensures.value) at c.in_ok-set.ensures.set in
    let given = rw c.deref-3.ensures.value at c.in_ok-replies.ensures in
    let served = given c.args.self.set ops (c.in_ok-calls.ensures.order ∙ ap in_batch_order c.deref.ensures.value) own in
    subst (IsServedInSomeOrder bulk_set c.args.self.set ops c.in_ok-replies.replies.items) (sym after) served
