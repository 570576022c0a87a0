-- The serial object of a FIFO queue.
use Rattle.std.specs.Prelude.{ℕ, List, [], ◌∷◌, ◌++◌, Some, None}
use Rattle.shared_calls.specs.Serial.{SerialObject}
use Rattle.shared_collections.specs.declared.fifo.FifoOp.{FifoOp}
use Rattle.shared_collections.specs.declared.fifo.FifoOp.TheVariants.{Put, Get}
use Rattle.shared_collections.specs.declared.fifo.FifoReply.{FifoReply}
use Rattle.shared_collections.specs.declared.fifo.FifoReply.TheVariants.{Done, Got}

-- the items after an operation, the oldest first: a put appends its item, and a get takes the oldest
abbrev pub items_after : List ℕ → FifoOp → List ℕ
items_after items (Put item) = items ++ item ∷ []
items_after [] Get = []
items_after (oldest ∷ items) Get = items

-- the reply to an operation: a get replies the oldest item, or none
abbrev pub fifo_reply : List ℕ → FifoOp → FifoReply
fifo_reply items (Put item) = Done
fifo_reply [] Get = Got None
fifo_reply (oldest ∷ items) Get = Got (Some oldest)

-- the queue, which is empty at first
abbrev pub fifo : SerialObject FifoOp FifoReply
fifo = record { State = List ℕ; opening = []; after = items_after; reply = fifo_reply }

-- the items that operations put, in their order
abbrev pub items_put : List FifoOp → List ℕ
items_put [] = []
items_put (Put item ∷ ops) = item ∷ items_put ops
items_put (Get ∷ ops) = items_put ops

-- the items in replies, in their order
abbrev pub items_got : List FifoReply → List ℕ
items_got [] = []
items_got (Got (Some item) ∷ replies) = item ∷ items_got replies
items_got (_ ∷ replies) = items_got replies
