use Rattle.report_walks.proofs.Alone.{HasWalked}
use Rattle.report_walks.proofs.order.are_alone.Given as goal

abbrev pub invariant-loop-tick : goal.invariant-loop-tick
invariant-loop-tick l = HasWalked l.rows l.free_from l.tick
