use Rattle.std.proofs.Common.{◌≡◌, List, map, subst}
use Rattle.seq_objects.specs.declared.op.Op.{Op}
use Rattle.seq_objects.specs.declared.kind.Kind.TheVariants.{Queue}
use Rattle.seq_objects.specs.Batches.{kind_of}
use Rattle.seq_objects.specs.Serial.{of_bag}
use Rattle.shared_calls.specs.Serial.{IsServedInSomeOrder}
use Rattle.shared_structures.specs.declared.queue.QueueOp.{QueueOp}
use Rattle.shared_structures.specs.Code.Batches.{objects}
use Rattle.shared_structures.specs.Code.Queues.{op_of}
use Rattle.shared_structures.proofs.Serving.{each_call}
use Rattle.shared_structures.proofs.QueueLemmas.{are_of_queue, queue_served}
use Rattle.shared_structures.proofs.queue.CombinedQueueCombined.serve.Goals as goal

pub serve_asked-requires-clause-may : goal.serve_asked-requires-clause-may
serve_asked-requires-clause-may c κs calls mixed =
    each_call (λ (op : Op). kind_of op ≡ Queue) (map op_of c.deref.result.now) calls (are_of_queue c.deref.result.now) mixed

pub returns-clause-served : goal.returns-clause-served
returns-clause-served c =
    let served = c.in_ok-queue.ensures.served in
    let before = c.args.self.queue in
    let now = c.in_ok-queue.queue in
    let whole = subst (λ (l : List QueueOp). IsServedInSomeOrder objects (of_bag before) (map op_of l) served.0 (of_bag now)) c.deref.ensures.value served.2 in
    queue_served before c.args.ops.items served.0 c.in_ok-queue.replies.items now served.1 whole
