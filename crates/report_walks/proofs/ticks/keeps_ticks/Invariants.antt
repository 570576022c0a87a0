use Rattle.report_walks.specs.Code.Ticks.{HasKept}
use Rattle.report_walks.proofs.ticks.keeps_ticks.Given as goal

abbrev pub invariant-loop-batch : goal.invariant-loop-batch
invariant-loop-batch l = HasKept l.book l.rows l.batch-index l.latest
