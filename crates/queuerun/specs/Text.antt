-- What the program prints of a script: a line for each call, as one thread would serve them.
use Rattle.std.specs.Prelude.{ℕ, ◌+◌, List, [], ◌∷◌, ◌++◌, Option, Some, None, codes}
use Rattle.std.specs.Fmt.{decimal}
use Rattle.seq_objects.specs.Words.{reply_words}
use Rattle.seq_objects.specs.declared.reply.Reply.{Reply}
use Rattle.batch_script.specs.Texts.{line_front, script_text}
use Rattle.batched_queue.specs.Fifo.{fifo, fifo_after, operations}
use Rattle.batched_queue.specs.declared.call.FifoCall.{FifoCall}
use Rattle.batched_queue.specs.Batches.{in_batch_order}
use Rattle.queuerun.specs.Calls.{queue_call}

-- how a call is written
abbrev pub call_words : Option ℕ → List ℕ
call_words (Some item) = codes "put " ++ decimal item
call_words None = codes "get"

-- the line of a call: its batch, its place there, its worker, and what it replied
abbrev pub call_line : ℕ → ℕ → FifoCall → Reply → List ℕ
call_line batch place call reply =
    line_front batch place call.worker ++ call_words call.item ++ codes " -> " ++ reply_words reply ++ codes "\n"

-- the lines of a batch's calls from this place on, each served after those before it
abbrev pub served_lines : ℕ → ℕ → List ℕ → List FifoCall → List ℕ
served_lines batch place queue [] = []
served_lines batch place queue (call ∷ calls) =
    call_line batch place call (fifo queue call.item).1 ++ served_lines batch (place + 1) (fifo queue call.item).0 calls

-- the lines of a batch: all puts come first, by worker, and then all gets, by worker
abbrev pub fifo_lines : ℕ → List ℕ → List (Option ℕ) → List ℕ
fifo_lines batch queue items = served_lines batch 0 queue (in_batch_order items)

-- the queue after a batch
abbrev pub after_batch : List ℕ → List (Option ℕ) → List ℕ
after_batch queue items = fifo_after queue (operations (in_batch_order items))

-- what the program prints of a text that is a script: its calls are served one after another, from the empty queue on
abbrev pub fifo_text : List ℕ → List ℕ
fifo_text bytes = script_text queue_call fifo_lines after_batch [] bytes
