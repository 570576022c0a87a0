use Rattle.std.proofs.Common.{◌≡◌, ◌++◌, drop}
use Rattle.bulk_calls.specs.Bulk.{operations}
use Rattle.bulk_calls.specs.Singles.{singles}
use Rattle.bulk_calls.proofs.begin.singles_of.Given as goal

abbrev pub invariant-loop-call : goal.invariant-loop-call
invariant-loop-call l = l.all.items ++ singles (operations (drop l.call-index l.calls)) ≡ singles (operations l.calls)
