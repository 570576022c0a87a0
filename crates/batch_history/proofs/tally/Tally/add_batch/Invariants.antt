use Rattle.std.proofs.Common.{◌≡◌, drop}
use Rattle.batch_history.specs.Code.Tallies.{with_entries}
use Rattle.batch_history.proofs.tally.Tally.add_batch.Given as goal

abbrev pub invariant-loop-entry : goal.invariant-loop-entry
invariant-loop-entry l = with_entries l.self (drop l.entry-index l.entries) ≡ with_entries l.fn.self l.entries
