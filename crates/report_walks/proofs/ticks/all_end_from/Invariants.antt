use Rattle.report_walks.specs.Code.Ticks.{EndFrom}
use Rattle.report_walks.proofs.ticks.all_end_from.Given as goal

abbrev pub invariant-loop-entry : goal.invariant-loop-entry
invariant-loop-entry l = EndFrom l.rows l.entries l.entry-index l.tick
