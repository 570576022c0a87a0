use Rattle.std.proofs.Common.{◌≡◌, ◌++◌, drop}
use Rattle.batched_map.specs.Maps.{operations}
use Rattle.batched_map.proofs.begin.operations_of.Given as goal

abbrev pub invariant-loop-call : goal.invariant-loop-call
invariant-loop-call l = l.operations.items ++ operations (drop l.call-index l.calls) ≡ operations l.calls
