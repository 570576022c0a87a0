use Rattle.std.proofs.Common.{◌≡◌, ◌∙◌, ap, sym, subst, map, length}
use Rattle.std.specs.Prelude.{IsPermutation}
use Rattle.std.specs.List.{AllByRecursion}
use Rattle.batched_map.specs.Batches.{numbered, in_batch_order}
use Rattle.shared_collections.specs.Maps.{ranked_map}
use Rattle.shared_collections.specs.Code.Maps.{asked_of, IsSmallOp}
use Rattle.shared_collections.proofs.Serving.{places_mixed, in_some_order}
use Rattle.shared_collections.proofs.MapServing.{worker, what, listed, mixed, entries_small, replies_small, entries_are, replies_are, as_many, as_many_own}
use Rattle.shared_collections.proofs.ranked.RankedMapCombined.serve.Goals as goal

pub own_replies-requires-clause-small : goal.own_replies-requires-clause-small
own_replies-requires-clause-small c =
    let ops = c.in_ok-asked.ensures.ops ∙ ap (map asked_of) c.deref.ensures.value in
    let small : AllByRecursion IsSmallOp (map asked_of c.args.ops.items) = subst (AllByRecursion IsSmallOp) ops c.in_ok-asked.ensures.small in
    rw (c.deref-5.ensures.value, c.in_ok-book.ensures.replies, c.into_book.ensures, c.deref-3.ensures.value, c.deref-4.ensures.value, c.in_ok-calls.ensures.order, c.deref-2.ensures.value, ops)
    (replies_small c.args.self.book (map asked_of c.args.ops.items) c.args.self.small small)

pub own_replies-requires-clause-count : goal.own_replies-requires-clause-count
own_replies-requires-clause-count c =
    rw (c.deref-5.ensures.value, c.in_ok-book.ensures.replies, c.deref-3.ensures.value, c.deref-4.ensures.value) (as_many c.into_book.result c.in_ok-calls.calls.items)

pub in_call_order-requires-clause-places : goal.in_call_order-requires-clause-places
in_call_order-requires-clause-places c =
    let ops = c.in_ok-asked.ensures.ops ∙ ap (map asked_of) c.deref.ensures.value in
    let asked = map asked_of c.args.ops.items in
    rw (c.deref-7.ensures.value, c.in_ok-places.ensures, c.deref-6.ensures.value, c.in_ok-calls.ensures.order, c.deref-2.ensures.value, ops)
    (places_mixed worker what (numbered 0 asked) (in_batch_order asked) c.args.ops.items (listed c.args.ops.items) (mixed asked))

pub in_call_order-requires-clause-count : goal.in_call_order-requires-clause-count
in_call_order-requires-clause-count c =
    let calls = c.in_ok-calls.calls.items in
    let count : length c.in_ok-book.replies.items ≡ length calls =
    rw (c.in_ok-book.ensures.replies, c.deref-3.ensures.value) (as_many c.into_book.result calls) in
    rw (c.in_ok-replies.ensures, c.deref-4.ensures.value, c.deref-5.ensures.value, c.deref-7.ensures.value, c.in_ok-places.ensures, c.deref-6.ensures.value)
    (as_many_own calls c.in_ok-book.replies.items count)

pub invariant_of-result : goal.invariant_of-result
invariant_of-result c =
    let ops = c.in_ok-asked.ensures.ops ∙ ap (map asked_of) c.deref.ensures.value in
    let small : AllByRecursion IsSmallOp (map asked_of c.args.ops.items) = subst (AllByRecursion IsSmallOp) ops c.in_ok-asked.ensures.small in record {
      small =
          rw (c.in_ok-book.ensures.entries, c.into_book.ensures, c.deref-3.ensures.value, c.in_ok-calls.ensures.order, c.deref-2.ensures.value, ops)
          (entries_small c.args.self.book (map asked_of c.args.ops.items) c.args.self.small small);
    }

pub returns-clause-served : goal.returns-clause-served
returns-clause-served c =
    let ops = c.in_ok-asked.ensures.ops ∙ ap (map asked_of) c.deref.ensures.value in
    let asked = map asked_of c.args.ops.items in
    let calls = c.in_ok-calls.calls.items in
    let ordered : calls ≡ in_batch_order asked = c.in_ok-calls.ensures.order ∙ ap in_batch_order (c.deref-2.ensures.value ∙ ops) in
    let each : IsPermutation (numbered 0 asked) calls = subst (IsPermutation (numbered 0 asked)) (sym ordered) (mixed asked) in
    let own = rw (c.deref-4.ensures.value, c.deref-5.ensures.value, c.in_ok-book.ensures.replies, c.into_book.ensures, c.deref-3.ensures.value) at c.in_ok-replies.ensures in
    let after = rw (c.into_book.ensures, c.deref-3.ensures.value) at c.in_ok-book.ensures.entries in
    in_some_order worker what ranked_map c.args.self.book c.in_ok-book.book (numbered 0 asked) calls c.args.ops.items c.in_ok-replies.replies.items c.in_ok-replies-2.replies.items
    (listed c.args.ops.items) each (own ∙ replies_are c.args.self.book calls) (after ∙ entries_are c.args.self.book calls)
    (rw (c.deref-7.ensures.value, c.in_ok-places.ensures, c.deref-6.ensures.value) at c.in_ok-replies-2.ensures)
