use Rattle.std.proofs.Common.{◌*◌, ◌≤◌}
use Rattle.limits.specs.declared.TheConstants.{MOST_BULK_KEYS}
use Rattle.bulk_calls.proofs.set.keys_of.Given as goal

abbrev pub invariant-loop-call : goal.invariant-loop-call
invariant-loop-call l = l.keys ≤ MOST_BULK_KEYS * l.call-index
