use Rattle.std.proofs.Common.{◌≡◌, length}
use Rattle.shared_tests.proofs.uses.items_from.Given as goal

abbrev pub invariant-loop-i : goal.invariant-loop-i
invariant-loop-i l = length l.items.items ≡ l.i
