-- Operations and replies of a queue as `batched_queue` has them.
use Rattle.std.specs.Prelude.{ℕ, Option, Some, None}
use Rattle.seq_objects.specs.declared.reply.Reply.{Reply}
use Rattle.seq_objects.specs.declared.reply.Reply.TheVariants.{Unit}
use Rattle.shared_collections.specs.declared.fifo.FifoOp.{FifoOp}
use Rattle.shared_collections.specs.declared.fifo.FifoOp.TheVariants.{Put, Get}
use Rattle.shared_collections.specs.declared.fifo.FifoReply.{FifoReply}
use Rattle.shared_collections.specs.declared.fifo.FifoReply.TheVariants.{Done, Got}
use Rattle.shared_collections.specs.Code.Numbers.{number_in}

-- the item of a put; a get has none
abbrev pub item_in : FifoOp → Option ℕ
item_in (Put item) = Some item
item_in Get = None

abbrev pub op_of : Option ℕ → FifoOp
op_of (Some item) = Put item
op_of None = Get

abbrev pub own_reply : Reply → FifoReply
own_reply Unit = Done
own_reply reply = Got (number_in reply)
