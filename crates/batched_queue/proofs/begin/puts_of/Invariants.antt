use Rattle.std.proofs.Common.{◌≡◌, ◌++◌, drop}
use Rattle.batched_queue.specs.Fifo.{numbers_put, operations}
use Rattle.batched_queue.proofs.begin.puts_of.Given as goal

abbrev pub invariant-loop-call : goal.invariant-loop-call
invariant-loop-call l = l.puts.items ++ numbers_put (operations (drop l.call-index l.calls)) ≡ numbers_put (operations l.calls)
