use Rattle.report_walks.specs.Code.Ticks.{IsLatest}
use Rattle.report_walks.proofs.ticks.latest_start.Given as goal

abbrev pub invariant-loop-entry : goal.invariant-loop-entry
invariant-loop-entry l = IsLatest l.rows l.entries l.entry-index l.latest l.greatest
