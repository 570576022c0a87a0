-- A FIFO queue as one thread would have it: the list of its items, the oldest first.
use Rattle.std.specs.Prelude.{ℕ, List, [], ◌∷◌, ◌++◌, map, Option, Some, None}
use Rattle.seq_objects.specs.declared.reply.Reply.{Reply}
use Rattle.seq_objects.specs.declared.reply.Reply.TheVariants as reply
use Rattle.batched_queue.specs.declared.call.FifoCall.{FifoCall}

-- The queue after an operation, and its reply. `Some item` is a put, which appends the item. `None` is a get, which
-- takes the first item, or replies `Empty` where there is none.
abbrev pub fifo : List ℕ → Option ℕ → List ℕ × Reply
fifo queue (Some item) = (queue ++ item ∷ [], reply.Unit)
fifo [] None = ([], reply.Empty)
fifo (item ∷ queue) None = (queue, reply.Number item)

-- the queue after operations, one after another
abbrev pub fifo_after : List ℕ → List (Option ℕ) → List ℕ
fifo_after queue [] = queue
fifo_after queue (operation ∷ operations) = fifo_after (fifo queue operation).0 operations

-- the replies to operations, one after another
abbrev pub fifo_replies : List ℕ → List (Option ℕ) → List Reply
fifo_replies queue [] = []
fifo_replies queue (operation ∷ operations) = (fifo queue operation).1 ∷ fifo_replies (fifo queue operation).0 operations

-- the operations that calls ask for
abbrev pub operations : List FifoCall → List (Option ℕ)
operations calls = map (λ call. call.item) calls

-- the numbers that operations put, in their order
abbrev pub numbers_put : List (Option ℕ) → List ℕ
numbers_put [] = []
numbers_put (Some item ∷ operations) = item ∷ numbers_put operations
numbers_put (None ∷ operations) = numbers_put operations

-- the numbers in replies, in their order
abbrev pub numbers_got : List Reply → List ℕ
numbers_got [] = []
numbers_got (reply.Number number ∷ replies) = number ∷ numbers_got replies
numbers_got (_ ∷ replies) = numbers_got replies
