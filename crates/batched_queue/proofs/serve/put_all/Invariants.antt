use Rattle.std.proofs.Common.{◌≡◌, ◌++◌, drop}
use Rattle.batched_queue.proofs.serve.put_all.Given as goal

abbrev pub invariant-loop-item : goal.invariant-loop-item
invariant-loop-item l = l.items.items ++ drop l.item-index l.puts ≡ l.fn.items.items ++ l.puts
