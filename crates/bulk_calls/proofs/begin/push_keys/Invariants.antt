use Rattle.std.proofs.Common.{◌≡◌, ◌++◌, drop}
use Rattle.bulk_calls.specs.Singles.{each_as}
use Rattle.bulk_calls.proofs.begin.push_keys.Given as goal

abbrev pub invariant-loop-key : goal.invariant-loop-key
invariant-loop-key l = l.all.items ++ each_as l.kind (drop l.key-index l.keys) ≡ l.fn.all.items ++ each_as l.kind l.keys
