use Rattle.std.proofs.Common.{subst, ◌∙◌}
use Rattle.batched_counter.specs.Pieces.{Cut as CounterCut, IsContextOf as IsCounterContext}
use Rattle.batched_stack.specs.Pieces.{Cut as StackCut, IsContextOf as IsStackContext}
use Rattle.batched_tree.specs.Pieces.{Cut as TreeCut, IsContextOf as IsTreeContext}
use Rattle.batched_pq.specs.Pieces.{Cut as QueueCut, IsContextOf as IsQueueContext}
use Rattle.launch_batch.proofs.Words.{Counter, Stack, Tree, Queue, calls_of, of_counter, of_stack, of_set, of_bag, MatchesHistory, HasRoom}
use Rattle.launch_batch.proofs.MergeLemmas.Dealing.{some_by_kind}
use Rattle.launch_batch.proofs.PieceLemmas.Ascending.{some_rows}
use Rattle.launch_batch.proofs.PieceLemmas.Rows.{in_rows}
use Rattle.launch_batch.proofs.PieceLemmas.Counting.{rows_are}
use Rattle.launch_batch.proofs.BatchLemmas.Beginning.{own_at, some_same, may_add, cut_for, context_for}
use Rattle.launch_batch.proofs.shop.Shop.begin.Goals as goal

pub open-requires-clause-may : goal.open-requires-clause-may
open-requires-clause-may c = λ lifetimes.
    rw (c.deref_mut-inner.ensures.value, c.as_slice-all.ensures.value) (may_add c.self.inside.structures.value c.self.inside.history c.args.calls.items c.put_in_batch_order.new.calls.items c.self.invariant
    (rw c.self.view_is c.requires) c.in_ok-put_in_batch_order.ensures.same c.in_ok-put_in_batch_order.ensures.narrow)

pub open-requires-2-clause-may : goal.open-requires-2-clause-may
open-requires-2-clause-may c = λ lifetimes number structure is. own_at Stack number c.as_slice-all.result.now

pub open-requires-3-clause-may : goal.open-requires-3-clause-may
open-requires-3-clause-may c = λ lifetimes number structure is. own_at Tree number c.as_slice-all.result.now

pub open-requires-4-clause-may : goal.open-requires-4-clause-may
open-requires-4-clause-may c = λ lifetimes number structure is. own_at Queue number c.as_slice-all.result.now

pub open-requires-clause-closed : goal.open-requires-clause-closed
open-requires-clause-closed c = λ lifetimes. rw c.deref_mut-inner.ensures.value c.self.invariant.counter.closed

pub open-requires-2-clause-closed : goal.open-requires-2-clause-closed
open-requires-2-clause-closed c = λ lifetimes. rw c.deref_mut-inner.ensures.value c.self.invariant.stack.closed

pub open-requires-3-clause-closed : goal.open-requires-3-clause-closed
open-requires-3-clause-closed c = λ lifetimes. rw c.deref_mut-inner.ensures.value c.self.invariant.tree.closed

pub open-requires-4-clause-closed : goal.open-requires-4-clause-closed
open-requires-4-clause-closed c = λ lifetimes. rw c.deref_mut-inner.ensures.value c.self.invariant.queue.closed

pub returns-clause-count : goal.returns-clause-count
returns-clause-count c =
    (in_rows _ _ _ _ _ _ _ _ _ c.new-pieces.ensures.items c.in_ok-open.ensures.behind c.in_ok-open-2.ensures.behind c.in_ok-open-3.ensures.behind c.in_ok-open-4.ensures.behind
    c.in_ok-open.ensures.few c.in_ok-open-2.ensures.few c.in_ok-open-3.ensures.few c.in_ok-open-4.ensures.few (some_rows _ _ _ _ _ _ _ _ c.in_ok-open.ensures.some c.in_ok-open-2.ensures.some c.in_ok-open-3.ensures.some c.in_ok-open-4.ensures.some
    (rw c.as_slice-all.ensures.value (some_by_kind c.put_in_batch_order.new.calls.items (some_same c.args.calls.items c.put_in_batch_order.new.calls.items c.in_ok-put_in_batch_order.ensures.same c.requires.some))))).count

pub returns-clause-below : goal.returns-clause-below
returns-clause-below c =
    (in_rows _ _ _ _ _ _ _ _ _ c.new-pieces.ensures.items c.in_ok-open.ensures.behind c.in_ok-open-2.ensures.behind c.in_ok-open-3.ensures.behind c.in_ok-open-4.ensures.behind
    c.in_ok-open.ensures.few c.in_ok-open-2.ensures.few c.in_ok-open-3.ensures.few c.in_ok-open-4.ensures.few (some_rows _ _ _ _ _ _ _ _ c.in_ok-open.ensures.some c.in_ok-open-2.ensures.some c.in_ok-open-3.ensures.some c.in_ok-open-4.ensures.some
    (rw c.as_slice-all.ensures.value (some_by_kind c.put_in_batch_order.new.calls.items (some_same c.args.calls.items c.put_in_batch_order.new.calls.items c.in_ok-put_in_batch_order.ensures.same c.requires.some))))).below

pub returns-clause-places : goal.returns-clause-places
returns-clause-places c =
    let i = c.self.invariant in
    let ordered = c.put_in_batch_order.new.calls.items in
    let rows =
    in_rows _ _ _ _ _ _ _ _ _ c.new-pieces.ensures.items c.in_ok-open.ensures.behind c.in_ok-open-2.ensures.behind c.in_ok-open-3.ensures.behind c.in_ok-open-4.ensures.behind
    c.in_ok-open.ensures.few c.in_ok-open-2.ensures.few c.in_ok-open-3.ensures.few c.in_ok-open-4.ensures.few (some_rows _ _ _ _ _ _ _ _ c.in_ok-open.ensures.some c.in_ok-open-2.ensures.some c.in_ok-open-3.ensures.some c.in_ok-open-4.ensures.some
    (rw c.as_slice-all.ensures.value (some_by_kind c.put_in_batch_order.new.calls.items (some_same c.args.calls.items c.put_in_batch_order.new.calls.items c.in_ok-put_in_batch_order.ensures.same c.requires.some)))) in (
      ordered,
      c.in_ok-put_in_batch_order.ensures.same,
      c.in_ok-put_in_batch_order.ensures.batch.order,
      rows.places ∙ rows_are c.args.self ordered c.in_ok-open.ensures.ins c.in_ok-open-2.ensures.ins c.in_ok-open-3.ensures.ins c.in_ok-open-4.ensures.ins
          (cut_for of_counter Counter CounterCut c.self.inside.structures.value.counter c.args.self (calls_of Counter ordered) c.in_ok-open.ensures.ins
          (subst (MatchesHistory of_counter Counter c.self.inside.structures.value.counter) c.self.view_is i.counter) (rw (c.deref_mut-inner.ensures.value, c.as_slice-all.ensures.value) at c.in_ok-open.ensures.are_cut))
          (cut_for (λ stack. of_stack stack.items) Stack StackCut c.self.inside.structures.value.stack c.args.self (calls_of Stack ordered) c.in_ok-open-2.ensures.ins
          (subst (MatchesHistory (λ stack. of_stack stack.items) Stack c.self.inside.structures.value.stack) c.self.view_is i.stack) (rw (c.deref_mut-inner.ensures.value, c.as_slice-all.ensures.value) at c.in_ok-open-2.ensures.are_cut))
          (cut_for of_set Tree TreeCut c.self.inside.structures.value.tree c.args.self (calls_of Tree ordered) c.in_ok-open-3.ensures.ins
          (subst (MatchesHistory of_set Tree c.self.inside.structures.value.tree) c.self.view_is i.tree) (rw (c.deref_mut-inner.ensures.value, c.as_slice-all.ensures.value) at c.in_ok-open-3.ensures.are_cut))
          (cut_for of_bag Queue QueueCut c.self.inside.structures.value.queue c.args.self (calls_of Queue ordered) c.in_ok-open-4.ensures.ins
          (subst (MatchesHistory of_bag Queue c.self.inside.structures.value.queue) c.self.view_is i.queue) (rw (c.deref_mut-inner.ensures.value, c.as_slice-all.ensures.value) at c.in_ok-open-4.ensures.are_cut)),
    )

pub returns-clause-rows : goal.returns-clause-rows
returns-clause-rows c =
    (in_rows _ _ _ _ _ _ _ _ _ c.new-pieces.ensures.items c.in_ok-open.ensures.behind c.in_ok-open-2.ensures.behind c.in_ok-open-3.ensures.behind c.in_ok-open-4.ensures.behind
    c.in_ok-open.ensures.few c.in_ok-open-2.ensures.few c.in_ok-open-3.ensures.few c.in_ok-open-4.ensures.few (some_rows _ _ _ _ _ _ _ _ c.in_ok-open.ensures.some c.in_ok-open-2.ensures.some c.in_ok-open-3.ensures.some c.in_ok-open-4.ensures.some
    (rw c.as_slice-all.ensures.value (some_by_kind c.put_in_batch_order.new.calls.items (some_same c.args.calls.items c.put_in_batch_order.new.calls.items c.in_ok-put_in_batch_order.ensures.same c.requires.some))))).own

pub returns-clause-ascend : goal.returns-clause-ascend
returns-clause-ascend c =
    (in_rows _ _ _ _ _ _ _ _ _ c.new-pieces.ensures.items c.in_ok-open.ensures.behind c.in_ok-open-2.ensures.behind c.in_ok-open-3.ensures.behind c.in_ok-open-4.ensures.behind
    c.in_ok-open.ensures.few c.in_ok-open-2.ensures.few c.in_ok-open-3.ensures.few c.in_ok-open-4.ensures.few (some_rows _ _ _ _ _ _ _ _ c.in_ok-open.ensures.some c.in_ok-open-2.ensures.some c.in_ok-open-3.ensures.some c.in_ok-open-4.ensures.some
    (rw c.as_slice-all.ensures.value (some_by_kind c.put_in_batch_order.new.calls.items (some_same c.args.calls.items c.put_in_batch_order.new.calls.items c.in_ok-put_in_batch_order.ensures.same c.requires.some))))).ascend

pub returns-clause-context : goal.returns-clause-context
returns-clause-context c =
    let i = c.self.invariant in
    let ordered = c.put_in_batch_order.new.calls.items in
    let rows =
    in_rows _ _ _ _ _ _ _ _ _ c.new-pieces.ensures.items c.in_ok-open.ensures.behind c.in_ok-open-2.ensures.behind c.in_ok-open-3.ensures.behind c.in_ok-open-4.ensures.behind
    c.in_ok-open.ensures.few c.in_ok-open-2.ensures.few c.in_ok-open-3.ensures.few c.in_ok-open-4.ensures.few (some_rows _ _ _ _ _ _ _ _ c.in_ok-open.ensures.some c.in_ok-open-2.ensures.some c.in_ok-open-3.ensures.some c.in_ok-open-4.ensures.some
    (rw c.as_slice-all.ensures.value (some_by_kind c.put_in_batch_order.new.calls.items (some_same c.args.calls.items c.put_in_batch_order.new.calls.items c.in_ok-put_in_batch_order.ensures.same c.requires.some)))) in
    record {
      book = c.self.view_is;
      given = record {
        may = c.requires;
        same = c.in_ok-put_in_batch_order.ensures.same;
        order = c.in_ok-put_in_batch_order.ensures.batch.order;
        narrow = c.in_ok-put_in_batch_order.ensures.narrow;
      };
      room = subst HasRoom c.self.view_is i.room;
      counter = context_for of_counter Counter IsCounterContext c.self.inside.structures.value.counter _ c.args.self (calls_of Counter ordered) c.in_ok-open.ensures.ins _
          (subst (MatchesHistory of_counter Counter c.self.inside.structures.value.counter) c.self.view_is i.counter) rows.apart.counters (rw (c.deref_mut-inner.ensures.value, c.as_slice-all.ensures.value) at c.in_ok-open.ensures.context);
      stack = context_for (λ stack. of_stack stack.items) Stack IsStackContext c.self.inside.structures.value.stack _ c.args.self (calls_of Stack ordered) c.in_ok-open-2.ensures.ins _
          (subst (MatchesHistory (λ stack. of_stack stack.items) Stack c.self.inside.structures.value.stack) c.self.view_is i.stack) rows.apart.stacks (rw (c.deref_mut-inner.ensures.value, c.as_slice-all.ensures.value) at c.in_ok-open-2.ensures.context);
      tree = context_for of_set Tree IsTreeContext c.self.inside.structures.value.tree _ c.args.self (calls_of Tree ordered) c.in_ok-open-3.ensures.ins _
          (subst (MatchesHistory of_set Tree c.self.inside.structures.value.tree) c.self.view_is i.tree) rows.apart.trees (rw (c.deref_mut-inner.ensures.value, c.as_slice-all.ensures.value) at c.in_ok-open-3.ensures.context);
      queue = context_for of_bag Queue IsQueueContext c.self.inside.structures.value.queue _ c.args.self (calls_of Queue ordered) c.in_ok-open-4.ensures.ins _
          (subst (MatchesHistory of_bag Queue c.self.inside.structures.value.queue) c.self.view_is i.queue) rows.apart.queues (rw (c.deref_mut-inner.ensures.value, c.as_slice-all.ensures.value) at c.in_ok-open-4.ensures.context);
    }
