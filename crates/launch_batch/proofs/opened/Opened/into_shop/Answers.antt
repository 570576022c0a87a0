use Rattle.std.proofs.Common.{refl, sym}
use Rattle.launch_batch.proofs.Words.{Counter, Stack, Tree, Queue, counter_piece, stack_piece, tree_piece, queue_piece, part}
use Rattle.launch_batch.proofs.BatchLemmas.Closing.{have_served}
use Rattle.launch_batch.proofs.opened.Opened.into_shop.Goals as goal

pub close-requires-clause-met : goal.close-requires-clause-met
close-requires-clause-met c = λ lifetimes.
    let r = c.requires.1 in
    rw (c.deref_mut-inner.ensures.value, c.as_slice-all.ensures.value)
    (part Counter counter_piece c.requires.0.before c.args.self.calls.items c.requires.0.ins, r.counter, refl, c.requires.2.counter)

pub close-requires-2-clause-met : goal.close-requires-2-clause-met
close-requires-2-clause-met c = λ lifetimes.
    let r = c.requires.1 in
    rw (c.deref_mut-inner.ensures.value, c.as_slice-all.ensures.value)
    (part Stack stack_piece c.requires.0.before c.args.self.calls.items c.requires.0.ins, r.stack, refl, c.requires.2.stack)

pub close-requires-3-clause-met : goal.close-requires-3-clause-met
close-requires-3-clause-met c = λ lifetimes.
    let r = c.requires.1 in
    rw (c.deref_mut-inner.ensures.value, c.as_slice-all.ensures.value)
    (part Tree tree_piece c.requires.0.before c.args.self.calls.items c.requires.0.ins, r.tree, refl, c.requires.2.tree)

pub close-requires-4-clause-met : goal.close-requires-4-clause-met
close-requires-4-clause-met c = λ lifetimes.
    let r = c.requires.1 in
    rw (c.deref_mut-inner.ensures.value, c.as_slice-all.ensures.value)
    (part Queue queue_piece c.requires.0.before c.args.self.calls.items c.requires.0.ins, r.queue, refl, c.requires.2.queue)

pub commit-requires : goal.commit-requires
commit-requires c =
    rw (c.as_slice-all.ensures.value, c.as_slice.ensures.value) (
      c.requires.0.calls,
      have_served c.args.self c.requires.0 c.requires.1 c.args.outs.now c.requires.2 _ _ _ _ _ _ _ _ c.deref_mut-inner.ensures.value c.as_slice-all.ensures.value c.new-replies.ensures.items
          c.in_ok-close.ensures c.in_ok-close-2.ensures c.in_ok-close-3.ensures c.in_ok-close-4.ensures,
    )

pub returns : goal.returns
returns c = λ o r met.
    rw (sym r.book, c.keep_calls.ensures) (c.in_ok-shop.ensures o.calls (rw (c.as_slice-all.ensures.value, c.as_slice.ensures.value)
    (have_served c.args.self o r c.args.outs.now met _ _ _ _ _ _ _ _ c.deref_mut-inner.ensures.value c.as_slice-all.ensures.value c.new-replies.ensures.items
    c.in_ok-close.ensures c.in_ok-close-2.ensures c.in_ok-close-3.ensures c.in_ok-close-4.ensures)))
