use Rattle.std.proofs.Common.{◌≡◌, drop}
use Rattle.batch_history.specs.Book.{flat}
use Rattle.batch_history.specs.Tally.{tally_of}
use Rattle.batch_history.specs.Code.Tallies.{with_entries}
use Rattle.batch_history.proofs.tally.Tally.of.Given as goal

abbrev pub invariant-loop-batch : goal.invariant-loop-batch
invariant-loop-batch l = with_entries l.tally (flat (drop l.batch-index l.batch-items)) ≡ tally_of (flat l.batch-items)
