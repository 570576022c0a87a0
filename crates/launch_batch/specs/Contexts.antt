-- The context of a batch over all structures, and how an opened batch belongs to it.
use Rattle.std.specs.Prelude.{◌≡◌, List}
use Rattle.seq_objects.specs.declared.kind.Kind.TheVariants.{Counter, Stack, Tree, Queue}
use Rattle.seq_objects.specs.Serial.{of_counter, of_stack, of_set, of_bag}
use Rattle.seq_objects.specs.Pieces.{BatchContext}
use Rattle.batched_counter.specs.Pieces.{IsContextOf as IsCounterContext}
use Rattle.batched_stack.specs.Pieces.{IsContextOf as IsStackContext}
use Rattle.batched_tree.specs.Pieces.{IsContextOf as IsTreeContext}
use Rattle.batched_pq.specs.Pieces.{IsContextOf as IsQueueContext}
use Rattle.object_rows.specs.Contexts.{IsRowContextOf}
use Rattle.batch_history.specs.declared.batch.Entry.{Entry}
use Rattle.launch_batch.specs.declared.opened.Opened.{Opened}
use Rattle.launch_batch.specs.declared.piece.PieceIn.{PieceIn}
use Rattle.launch_batch.specs.Contents.{HasRoom, AreOrdered}
use Rattle.launch_batch.specs.ByStructure.{counter_piece, stack_piece, tree_piece, queue_piece, part}

-- The opened batch has the history before it, which leaves room in the counters, and the calls in batch order; the
-- calls may be served. The structures that they call are open, each for its own calls; all others are closed, with the
-- contents of that history.
pub record IsContextOf (opened : Opened) (o : BatchContext (List (List Entry)) PieceIn) : Type 0 where
  pub book : opened.history ≡ o.before
  pub given : AreOrdered o.before o.calls opened.calls.items
  pub room : HasRoom o.before
  pub counter : IsRowContextOf of_counter IsCounterContext opened.structures.value.counter
      (part Counter counter_piece o.before opened.calls.items o.ins)
  pub stack : IsRowContextOf (λ stack. of_stack stack.items) IsStackContext opened.structures.value.stack
      (part Stack stack_piece o.before opened.calls.items o.ins)
  pub tree : IsRowContextOf of_set IsTreeContext opened.structures.value.tree
      (part Tree tree_piece o.before opened.calls.items o.ins)
  pub queue : IsRowContextOf of_bag IsQueueContext opened.structures.value.queue
      (part Queue queue_piece o.before opened.calls.items o.ins)
