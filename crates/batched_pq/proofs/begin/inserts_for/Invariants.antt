use Rattle.std.proofs.Common.{◌≡◌, ◌+◌, ◌-◌, ◌%◌, ◌++◌, drop, length}
use Rattle.batched_pq.specs.Calls.{inserts_for}
use Rattle.batched_pq.proofs.begin.inserts_for.Given as goal

-- the shard's inserts so far, followed by those among the remaining inserts, are all of them
abbrev pub invariant-loop-i : goal.invariant-loop-i
invariant-loop-i l = record {
  own : l.i % 8 ≡ l.number;
  all : l.own.items ++ inserts_for l.number l.i (drop l.i l.inserts) ≡ inserts_for l.number 0 l.inserts;
}

abbrev pub decreases-loop-i : goal.decreases-loop-i
decreases-loop-i l = length l.inserts + 8 - l.i
