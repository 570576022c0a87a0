use Rattle.std.proofs.Common.{◌≡◌, ◌++◌, ◌+◌, take, drop}
use Rattle.batched_counter.specs.Sums.{total, sums_from}
use Rattle.batched_counter.proofs.serve.sum_up.Given as goal

-- the sums so far, followed by those of the remaining addends, are all sums
abbrev pub invariant-loop-i : goal.invariant-loop-i
invariant-loop-i l = record {
  sums : take l.i l.addends ++ sums_from l.sum (drop l.i l.addends) ≡ sums_from 0 l.fn.addends;
  sum : l.sum + total (drop l.i l.addends) ≡ total l.fn.addends;
}
