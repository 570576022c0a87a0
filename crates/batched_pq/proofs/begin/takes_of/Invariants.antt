use Rattle.std.proofs.Common.{◌≡◌, ◌+◌, ◌≤◌, drop}
use Rattle.batched_pq.specs.Calls.{takes_of}
use Rattle.batched_pq.proofs.begin.takes_of.Given as goal

-- the takes so far plus those of the remaining calls are all takes
abbrev pub invariant-loop-call : goal.invariant-loop-call
invariant-loop-call l = record {
  few : l.takes ≤ l.call-index;
  all : l.takes + takes_of (drop l.call-index l.calls) ≡ takes_of l.calls;
}
