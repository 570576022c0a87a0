use Rattle.std.proofs.Common.{◌≡◌, ◌++◌, drop}
use Rattle.batched_pq.specs.Calls.{inserts_of}
use Rattle.batched_pq.proofs.begin.inserts_of.Given as goal

-- the inserts so far, followed by those of the remaining calls, are all inserts
abbrev pub invariant-loop-call : goal.invariant-loop-call
invariant-loop-call l = l.inserts.items ++ inserts_of (drop l.call-index l.calls) ≡ inserts_of l.calls
