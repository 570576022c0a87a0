use Rattle.std.proofs.Common.{◌≡◌, ◌+◌, ◌%◌, ◌^◌, drop}
use Rattle.std.specs.Prelude.{sum}
use Rattle.shared_uses.proofs.sums.sum_of.Given as goal

-- the sum so far, with those of the numbers that are left
abbrev pub invariant-loop-i : goal.invariant-loop-i
invariant-loop-i l = (l.total + sum (drop l.i l.numbers)) % 2 ^ 64 ≡ sum l.numbers % 2 ^ 64
