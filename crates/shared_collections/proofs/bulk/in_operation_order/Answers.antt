use Rattle.std.proofs.Common.{◌≡◌, ◌∙◌, ap, sym, map, length}
use Rattle.std.proofs.lemmas.List.{length-map}
use Rattle.std.proofs.lemmas.Result.{IfOk-weaker}
use Rattle.reply_order.specs.Order.{AreInOrder}
use Rattle.shared_collections.proofs.BulkServing.{worker, places_are, ordered}
use Rattle.shared_collections.proofs.bulk.in_operation_order.Goals as goal

pub in_call_order-requires-clause-places : goal.in_call_order-requires-clause-places
in_call_order-requires-clause-places c =
    let r = c.requires.calls in
    rw (c.deref.ensures.value, c.in_ok-places.ensures) (places_are r.0 c.args.calls.now r.1)

pub in_call_order-requires-clause-count : goal.in_call_order-requires-clause-count
in_call_order-requires-clause-count c =
    c.requires.count ∙ sym (length-map c.args.calls.now worker) ∙ sym (ap length (c.deref.ensures.value ∙ c.in_ok-places.ensures))

pub returns : goal.returns
returns c =
    let order = rw (c.deref.ensures.value, c.in_ok-places.ensures) at c.in_call_order.ensures in
    IfOk-weaker c.in_call_order.result (λ own. AreInOrder (map worker c.args.calls.now) c.args.replies.items own.items) _
    (λ own order set ops is are. ordered set ops c.args.calls.now c.args.replies.items own.items is are order) order
