use Rattle.core_state.proofs.CodeLemmas.CoreFits.{looks}
use Rattle.batcher_core.proofs.scheduler.CoreWith.due.Goals as goal

pub work_due-requires-clause-fits : goal.work_due-requires-clause-fits
work_due-requires-clause-fits g c = c.self.invariant.1 (rw (← c.self.view_is) at c.requires.unspent)

pub work_due-requires-clause-looks : goal.work_due-requires-clause-looks
work_due-requires-clause-looks g c = looks c.self.inside.setting c.self.inside.table (c.self.invariant.1 (rw (← c.self.view_is) at c.requires.unspent))
