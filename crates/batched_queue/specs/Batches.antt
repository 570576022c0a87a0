-- The calls of one batch, and batches one after another.
use Rattle.std.specs.Prelude.{ℕ, suc, ◌<◌, ◌≤◌, Bool, true, false, not, List, [], ◌∷◌, ◌++◌, length, map, filter, Option, Some, None, is_some, ⊤}
use Rattle.seq_objects.specs.Pairs.{AllPairsByRecursion, AreDistinct}
use Rattle.seq_objects.specs.declared.reply.Reply.{Reply}
use Rattle.batched_queue.specs.declared.call.FifoCall.{FifoCall}
use Rattle.batched_queue.specs.Fifo.{fifo_after, fifo_replies, operations}
use Rattle.limits.specs.declared.TheConstants.{MOST_WORKERS}

-- the operation of the first worker is served before that of the second: puts before gets, and each by worker
abbrev pub ComesFirst : Option ℕ → ℕ → Option ℕ → ℕ → Type 0
ComesFirst (Some item) worker (Some item') worker' = worker < worker'
ComesFirst (Some item) worker None worker' = ⊤
ComesFirst None worker (Some item) worker' = ⊥
ComesFirst None worker None worker' = worker < worker'

-- the calls are those of one batch: at most `MOST_WORKERS`, in batch order, of distinct workers
pub record AreFifoBatch (calls : List FifoCall) : Type 0 where
  pub few : length calls ≤ MOST_WORKERS
  pub order : AllPairsByRecursion (λ first second. ComesFirst first.item first.worker second.item second.worker) calls
  pub workers : AreDistinct (map (λ call. call.worker) calls)

-- operations as the calls of the workers `worker`, `worker` + 1, ..
abbrev pub numbered : ℕ → List (Option ℕ) → List FifoCall
numbered worker [] = []
numbered worker (operation ∷ operations) =
    record { worker = worker; item = operation } ∷ numbered (suc worker) operations

-- whether a call is a put (`true`), or a get (`false`)
abbrev pub is_of_kind : Bool → FifoCall → Bool
is_of_kind true call = is_some call.item
is_of_kind false call = not (is_some call.item)

-- a batch of the operations of workers 0, 1, .. : the puts by worker, and then the gets by worker
abbrev pub in_batch_order : List (Option ℕ) → List FifoCall
in_batch_order operations =
    filter (is_of_kind true) (numbered 0 operations) ++ filter (is_of_kind false) (numbered 0 operations)

-- the queue after batches
abbrev pub after_batches : List ℕ → List (List FifoCall) → List ℕ
after_batches queue [] = queue
after_batches queue (calls ∷ batches) = after_batches (fifo_after queue (operations calls)) batches

-- the replies to the calls of all batches
abbrev pub replies_to_batches : List ℕ → List (List FifoCall) → List Reply
replies_to_batches queue [] = []
replies_to_batches queue (calls ∷ batches) =
    fifo_replies queue (operations calls) ++ replies_to_batches (fifo_after queue (operations calls)) batches

-- the operations of all batches
abbrev pub operations_of : List (List FifoCall) → List (Option ℕ)
operations_of [] = []
operations_of (calls ∷ batches) = operations calls ++ operations_of batches
