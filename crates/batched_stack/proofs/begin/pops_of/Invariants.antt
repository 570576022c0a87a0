use Rattle.std.proofs.Common.{◌≡◌, ◌+◌, ◌≤◌, drop}
use Rattle.batched_stack.specs.Calls.{pops_of}
use Rattle.batched_stack.proofs.begin.pops_of.Given as goal

abbrev pub invariant-loop-call : goal.invariant-loop-call
invariant-loop-call l = record {
  told : l.pops + pops_of (drop l.call-index l.calls) ≡ pops_of l.calls;
  most : l.pops ≤ l.call-index;
}
