-- Lines by replies are the lines of calls that are served one after another.
use Rattle.std.proofs.Common.{◌≡◌, ℕ, ◌+◌, List, [], ◌∷◌, ◌++◌, length, refl, ap, arith}
use Rattle.batched_queue.specs.Fifo.{fifo, fifo_replies, operations}
use Rattle.batched_queue.specs.declared.call.FifoCall.{FifoCall}
use Rattle.queuerun.specs.Text.{call_line, served_lines}
use Rattle.queuerun.specs.Code.{call_lines}

pub lines_served : (batch place : ℕ) (queue : List ℕ) (calls : List FifoCall)
    → call_lines batch place calls (fifo_replies queue (operations calls)) ≡ served_lines batch place queue calls
lines_served batch place queue [] = refl
lines_served batch place queue (call ∷ calls) =
    ap (λ lines. call_line batch place call (fifo queue call.item).1 ++ lines) (lines_served batch (place + 1) (fifo queue call.item).0 calls)

pub replies_counted : (queue : List ℕ) (calls : List FifoCall) → length (fifo_replies queue (operations calls)) ≡ length calls
replies_counted queue [] = refl
replies_counted queue (call ∷ calls) = omega (arith, replies_counted (fifo queue call.item).0 calls)
