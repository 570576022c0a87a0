use Rattle.std.proofs.Common.{◌≡◌, ◌++◌, length}
use Rattle.report_reader.specs.Code.Groups.{numbered_batch}
use Rattle.report_reader.proofs.batches.first_batch.Given as goal

abbrev pub invariant-loop-call : goal.invariant-loop-call
invariant-loop-call l = numbered_batch l.batch 0 l.entries.items ++ l.rest ≡ l.calls

abbrev pub decreases-loop-call : goal.decreases-loop-call
decreases-loop-call l = length l.rest
