use Rattle.std.proofs.Common.{sym}
use Rattle.launch_batch.proofs.Words.{Stack, Tree, Queue}
use Rattle.launch_batch.proofs.BatchLemmas.Beginning.{own_at, may_add}
use Rattle.launch_batch.proofs.BatchLemmas.Closing.{have_served_own}
use Rattle.launch_batch.proofs.serving.serve.Goals as goal

pub serve-requires-clause-may : goal.serve-requires-clause-may
serve-requires-clause-may c = λ lifetimes.
    rw (c.deref_mut-inner.ensures.value, c.as_slice-all.ensures.value) (may_add c.shop.inside.structures.value c.shop.inside.history c.args.calls.now.items c.put_in_batch_order.new.calls.items c.shop.invariant
    (rw c.shop.view_is c.requires) c.in_ok-put_in_batch_order.ensures.same c.in_ok-put_in_batch_order.ensures.narrow)

pub serve-requires-2-clause-may : goal.serve-requires-2-clause-may
serve-requires-2-clause-may c = λ lifetimes number structure is. own_at Stack number c.as_slice-all.result.now

pub serve-requires-3-clause-may : goal.serve-requires-3-clause-may
serve-requires-3-clause-may c = λ lifetimes number structure is. own_at Tree number c.as_slice-all.result.now

pub serve-requires-4-clause-may : goal.serve-requires-4-clause-may
serve-requires-4-clause-may c = λ lifetimes number structure is. own_at Queue number c.as_slice-all.result.now

pub commit-requires : goal.commit-requires
commit-requires c =
    rw (c.as_slice-all.ensures.value, c.as_slice.ensures.value) (
      c.args.calls.now.items,
      have_served_own c.shop.inside.structures.value c.shop.inside.history c.args.calls.now.items c.put_in_batch_order.new.calls.items c.shop.invariant
          (record { may = rw c.shop.view_is c.requires; same = c.in_ok-put_in_batch_order.ensures.same; order = c.in_ok-put_in_batch_order.ensures.batch.order; narrow = c.in_ok-put_in_batch_order.ensures.narrow })
          _ _ _ _ _ _ _ _ c.deref_mut-inner.ensures.value c.as_slice-all.ensures.value c.new-replies.ensures.items
          c.in_ok-serve.ensures c.in_ok-serve-2.ensures c.in_ok-serve-3.ensures c.in_ok-serve-4.ensures,
    )

pub returns-clause-history : goal.returns-clause-history
returns-clause-history c =
    rw (sym c.shop.view_is) (c.in_ok-next.ensures c.args.calls.now.items (rw (c.as_slice-all.ensures.value, c.as_slice.ensures.value)
    (have_served_own c.shop.inside.structures.value c.shop.inside.history c.args.calls.now.items c.put_in_batch_order.new.calls.items c.shop.invariant
    (record { may = rw c.shop.view_is c.requires; same = c.in_ok-put_in_batch_order.ensures.same; order = c.in_ok-put_in_batch_order.ensures.batch.order; narrow = c.in_ok-put_in_batch_order.ensures.narrow })
    _ _ _ _ _ _ _ _ c.deref_mut-inner.ensures.value c.as_slice-all.ensures.value c.new-replies.ensures.items
    c.in_ok-serve.ensures c.in_ok-serve-2.ensures c.in_ok-serve-3.ensures c.in_ok-serve-4.ensures)))
