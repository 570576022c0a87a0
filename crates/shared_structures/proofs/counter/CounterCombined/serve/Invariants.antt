use Rattle.std.proofs.Common.{◌≡◌, ◌++◌, take, drop, vec_len}
use Rattle.shared_calls.specs.Serial.{replies_to_all, after_all}
use Rattle.shared_structures.specs.Counters.{counter}
use Rattle.shared_structures.proofs.counter.CounterCombined.serve.Given as goal

-- the sums so far, followed by those of the addends that are left, are all sums
abbrev pub invariant-loop-i : goal.invariant-loop-i
invariant-loop-i l = record {
  sums : take l.i l.sums.items ++ replies_to_all counter l.number (drop l.i l.sums.items) ≡ replies_to_all counter l.fn.self.number l.fn.ops.items;
  number : after_all counter l.number (drop l.i l.sums.items) ≡ after_all counter l.fn.self.number l.fn.ops.items;
  long : vec_len l.sums ≡ vec_len l.fn.ops;
}
