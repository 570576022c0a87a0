use Rattle.std.proofs.Common.{◌≡◌, ℕ, ◌<◌, true, get_or}
use Rattle.report_walks.proofs.rows.all_taken.Given as goal

abbrev pub invariant-loop-taken : goal.invariant-loop-taken
invariant-loop-taken l = (tick : ℕ) → tick < l.taken-index → get_or l.taken tick true ≡ true
