-- A queue's operations and replies as those of the shared objects of number 0.
use Rattle.std.specs.Prelude.{Some, None}
use Rattle.seq_objects.specs.declared.op.Op.{Op}
use Rattle.seq_objects.specs.declared.op.Op.TheVariants as op
use Rattle.seq_objects.specs.declared.reply.Reply.{Reply}
use Rattle.seq_objects.specs.declared.reply.Reply.TheVariants as reply
use Rattle.shared_structures.specs.declared.queue.QueueOp.{QueueOp}
use Rattle.shared_structures.specs.declared.queue.QueueOp.TheVariants.{Insert, Take}
use Rattle.shared_structures.specs.declared.queue.QueueReply.{QueueReply}
use Rattle.shared_structures.specs.declared.queue.QueueReply.TheVariants.{Inserted, Taken}

-- the operation that is asked
abbrev pub op_of : QueueOp → Op
op_of (Insert item) = op.PqInsert 0 item
op_of Take = op.PqTake 0

-- the answer that stands for a reply
abbrev pub answer_of : Reply → QueueReply
answer_of (reply.Number item) = Taken (Some item)
answer_of reply.Empty = Taken None
answer_of reply.Unit = Inserted
answer_of reply.Yes = Inserted
answer_of reply.No = Inserted
