-- A shop, from its structures: a row for each kind.
use denote.RattleType.{RattleType}
use denote.Param.Send.{IsSend, sendable}
use denote.Param.SendFields.{declared_send}
use Rattle.std.proofs.Crossing.{crosses}
use Rattle.std.proofs.MapsCrossing as maps
use Rattle.batched_counter.specs.contracts.counter.Counter as counter
use Rattle.batched_counter.specs.contracts.piece.Rest as counter_rest
use Rattle.batched_stack.specs.contracts.stack.Stack as stack
use Rattle.batched_stack.specs.contracts.piece.Rest as stack_rest
use Rattle.batched_tree.specs.contracts.tree_set.TreeSet as tree
use Rattle.batched_tree.specs.contracts.piece.Rest as tree_rest
use Rattle.batched_pq.specs.contracts.queue.Queue as queue
use Rattle.batched_pq.specs.contracts.piece.Rest as queue_rest
use Rattle.object_rows.specs.contracts.row.Row as row
use Rattle.object_rows.specs.contracts.row.Called as called
use Rattle.object_rows.specs.contracts.by_number.ByNumber as by_number
use Rattle.launch_batch.specs.contracts.piece.PieceOut as out
use Rattle.launch_batch.specs.contracts.spare.Spare as spare
use Rattle.launch_batch.specs.contracts.structures.Structures as structures
use Rattle.launch_batch.proofs.sending.shops_go_to_threads.Goals as goal

module _ (T R : RattleType) (whole : IsSend T) (rest : IsSend R) where
  closed : IsSend (by_number.the_row T)
  closed = declared_send (by_number.the_type T) (search (sendable, crosses) depth 20, (search (sendable, maps.crosses) depth 20, tt))

  one_called : IsSend (called.the_row R)
  one_called = search sendable depth 20

  row_is_sent : IsSend (row.the_row T R)
  row_is_sent = let c = closed in let o = one_called in declared_send (row.the_type T R) (search (sendable, crosses) depth 20, (search (sendable, crosses) depth 20, tt))

counter_is_sent : IsSend counter.the_row
counter_is_sent = search sendable depth 20

counter_rest_is_sent : IsSend counter_rest.the_row
counter_rest_is_sent = search sendable depth 20

stack_is_sent : IsSend stack.the_row
stack_is_sent = search (sendable, crosses) depth 40 fits 20000

stack_rest_is_sent : IsSend stack_rest.the_row
stack_rest_is_sent = search (sendable, crosses) depth 40 fits 20000

queue_rest_is_sent : IsSend queue_rest.the_row
queue_rest_is_sent = search (sendable, crosses) depth 40 fits 20000

spare_is_sent : IsSend out.the_row → IsSend spare.the_row
spare_is_sent out_is_sent = declared_send spare.the_type (search (sendable, crosses) depth 20, (search (sendable, crosses) depth 20, tt))

structures_are_sent : IsSend tree.the_row → IsSend tree_rest.the_row → IsSend queue.the_row → IsSend out.the_row → IsSend structures.the_row
structures_are_sent tree_is_sent tree_rest_is_sent queue_is_sent out_is_sent =
    let counters = row_is_sent counter.the_row counter_rest.the_row counter_is_sent counter_rest_is_sent in
    let stacks = row_is_sent stack.the_row stack_rest.the_row stack_is_sent stack_rest_is_sent in
    let trees = row_is_sent tree.the_row tree_rest.the_row tree_is_sent tree_rest_is_sent in
    let queues = row_is_sent queue.the_row queue_rest.the_row queue_is_sent queue_rest_is_sent in
    let kept = spare_is_sent out_is_sent in
    declared_send structures.the_type (search sendable depth 20, (search sendable depth 20, (search sendable depth 20, (search sendable depth 20, (search sendable depth 20, tt)))))

pub is_sent-requires-send-T : goal.is_sent-requires-send-T
is_sent-requires-send-T c κs =
    let deepest = c.parts_are_sent.ensures in
    let parts = structures_are_sent deepest.tree deepest.tree_rest deepest.queue deepest.out in
    search (sendable, crosses) depth 40 fits 20000
