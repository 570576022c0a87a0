use Rattle.std.proofs.Common.{◌≡◌, drop}
use Rattle.shared_calls.specs.Serial.{after_all}
use Rattle.shared_tests.specs.Tallies.{tally}
use Rattle.shared_tests.proofs.tally.add_all.Given as goal

-- the numbers that are left bring the sum so far to the whole
abbrev pub invariant-loop-i : goal.invariant-loop-i
invariant-loop-i l = after_all tally l.sum (drop l.i l.numbers) ≡ after_all tally l.fn.first l.fn.numbers
