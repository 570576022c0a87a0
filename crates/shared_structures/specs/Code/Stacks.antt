-- A stack's operations and replies as those of the shared objects of number 0.
use Rattle.std.specs.Prelude.{Some, None}
use Rattle.seq_objects.specs.declared.op.Op.{Op}
use Rattle.seq_objects.specs.declared.op.Op.TheVariants as op
use Rattle.seq_objects.specs.declared.reply.Reply.{Reply}
use Rattle.seq_objects.specs.declared.reply.Reply.TheVariants as reply
use Rattle.shared_structures.specs.declared.stack.StackOp.{StackOp}
use Rattle.shared_structures.specs.declared.stack.StackOp.TheVariants.{Push, Pop}
use Rattle.shared_structures.specs.declared.stack.StackReply.{StackReply}
use Rattle.shared_structures.specs.declared.stack.StackReply.TheVariants.{Pushed, Popped}

-- the operation that is asked
abbrev pub op_of : StackOp → Op
op_of (Push item) = op.Push 0 item
op_of Pop = op.Pop 0

-- the answer that stands for a reply
abbrev pub answer_of : Reply → StackReply
answer_of (reply.Number item) = Popped (Some item)
answer_of reply.Empty = Popped None
answer_of reply.Unit = Pushed
answer_of reply.Yes = Pushed
answer_of reply.No = Pushed
