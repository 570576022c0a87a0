use Rattle.std.proofs.Common.{◌≡◌, ◌∙◌, ap, sym, subst, map}
use Rattle.std.specs.Prelude.{IsPermutation}
use Rattle.std.specs.List.{AllByRecursion}
use Rattle.batched_queue.specs.Batches.{numbered, in_batch_order}
use Rattle.shared_collections.specs.Fifos.{fifo}
use Rattle.shared_collections.specs.Code.Fifos.{item_in}
use Rattle.shared_collections.specs.Code.Numbers.{IsSmall}
use Rattle.shared_collections.proofs.Serving.{places_mixed, in_some_order}
use Rattle.shared_collections.proofs.FifoServing.{worker, what, listed, mixed, items_fit, replies_fit, items_are, replies_are, as_many}
use Rattle.shared_collections.proofs.fifo.FifoCombined.serve.Goals as goal

pub own_replies-requires : goal.own_replies-requires
own_replies-requires c =
    let items = c.in_ok-items.ensures.items ∙ ap (map item_in) c.deref.ensures.value in
    let fit : AllByRecursion IsSmall (map item_in c.args.ops.items) = subst (AllByRecursion IsSmall) items c.in_ok-items.ensures.fit in
    rw (c.deref-4.ensures.value, c.in_ok-queue.ensures.replies, c.into_queue.ensures, c.deref-3.ensures.value, c.in_ok-calls.ensures.order, c.deref-2.ensures.value, items)
    (replies_fit c.args.self.queue (map item_in c.args.ops.items) c.args.self.fits fit)

pub in_call_order-requires-clause-places : goal.in_call_order-requires-clause-places
in_call_order-requires-clause-places c =
    let items = c.in_ok-items.ensures.items ∙ ap (map item_in) c.deref.ensures.value in
    let asked = map item_in c.args.ops.items in
    rw (c.deref-6.ensures.value, c.in_ok-places.ensures, c.deref-5.ensures.value, c.in_ok-calls.ensures.order, c.deref-2.ensures.value, items)
    (places_mixed worker what (numbered 0 asked) (in_batch_order asked) c.args.ops.items (listed c.args.ops.items) (mixed asked))

pub in_call_order-requires-clause-count : goal.in_call_order-requires-clause-count
in_call_order-requires-clause-count c =
    rw (c.in_ok-replies.ensures, c.deref-4.ensures.value, c.in_ok-queue.ensures.replies, c.deref-3.ensures.value, c.deref-6.ensures.value, c.in_ok-places.ensures, c.deref-5.ensures.value)
    (as_many c.into_queue.result c.in_ok-calls.calls.items)

pub invariant_of-result : goal.invariant_of-result
invariant_of-result c =
    let items = c.in_ok-items.ensures.items ∙ ap (map item_in) c.deref.ensures.value in
    let fit : AllByRecursion IsSmall (map item_in c.args.ops.items) = subst (AllByRecursion IsSmall) items c.in_ok-items.ensures.fit in record {
      fits =
          rw (c.in_ok-queue.ensures.items, c.into_queue.ensures, c.deref-3.ensures.value, c.in_ok-calls.ensures.order, c.deref-2.ensures.value, items)
          (items_fit c.args.self.queue (map item_in c.args.ops.items) c.args.self.fits fit);
    }

pub returns-clause-served : goal.returns-clause-served
returns-clause-served c =
    let items = c.in_ok-items.ensures.items ∙ ap (map item_in) c.deref.ensures.value in
    let asked = map item_in c.args.ops.items in
    let calls = c.in_ok-calls.calls.items in
    let ordered : calls ≡ in_batch_order asked = c.in_ok-calls.ensures.order ∙ ap in_batch_order (c.deref-2.ensures.value ∙ items) in
    let each : IsPermutation (numbered 0 asked) calls = subst (IsPermutation (numbered 0 asked)) (sym ordered) (mixed asked) in
    let own = rw (c.deref-4.ensures.value, c.in_ok-queue.ensures.replies, c.into_queue.ensures, c.deref-3.ensures.value) at c.in_ok-replies.ensures in
    let after = rw (c.into_queue.ensures, c.deref-3.ensures.value) at c.in_ok-queue.ensures.items in
    in_some_order worker what fifo c.args.self.queue c.in_ok-queue.queue (numbered 0 asked) calls c.args.ops.items c.in_ok-replies.replies.items c.in_ok-replies-2.replies.items
    (listed c.args.ops.items) each (own ∙ replies_are c.args.self.queue calls) (after ∙ items_are c.args.self.queue calls)
    (rw (c.deref-6.ensures.value, c.in_ok-places.ensures, c.deref-5.ensures.value) at c.in_ok-replies-2.ensures)
