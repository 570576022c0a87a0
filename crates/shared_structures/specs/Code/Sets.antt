-- A set's operations and replies as those of the shared objects of number 0.
use Rattle.std.specs.Prelude.{true, false, Some, None}
use Rattle.seq_objects.specs.declared.op.Op.{Op}
use Rattle.seq_objects.specs.declared.op.Op.TheVariants as op
use Rattle.seq_objects.specs.declared.reply.Reply.{Reply}
use Rattle.seq_objects.specs.declared.reply.Reply.TheVariants as reply
use Rattle.shared_structures.specs.declared.set.SetOp.{SetOp}
use Rattle.shared_structures.specs.declared.set.SetOp.TheVariants.{Insert, Remove, Find, NextAbove}
use Rattle.shared_structures.specs.declared.set.SetReply.{SetReply}
use Rattle.shared_structures.specs.declared.set.SetReply.TheVariants.{Answer, Key}

-- the operation that is asked
abbrev pub op_of : SetOp → Op
op_of (Insert key) = op.TreeInsert 0 key
op_of (Remove key) = op.TreeRemove 0 key
op_of (Find key) = op.TreeFind 0 key
op_of (NextAbove key) = op.TreeNext 0 key

-- the answer that stands for a reply
abbrev pub answer_of : Reply → SetReply
answer_of (reply.Number key) = Key (Some key)
answer_of reply.Empty = Key None
answer_of reply.Unit = Key None
answer_of reply.Yes = Answer true
answer_of reply.No = Answer false
