use Rattle.std.proofs.Common.{◌≡◌, ◌++◌, drop}
use Rattle.batched_stack.specs.Calls.{pushes_of}
use Rattle.batched_stack.proofs.begin.pushes_of.Given as goal

abbrev pub invariant-loop-call : goal.invariant-loop-call
invariant-loop-call l = l.items.items ++ pushes_of (drop l.call-index l.calls) ≡ pushes_of l.calls
