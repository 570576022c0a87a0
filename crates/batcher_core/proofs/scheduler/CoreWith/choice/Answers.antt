use Rattle.core_state.proofs.CodeLemmas.CoreFits.{looks}
use Rattle.batcher_core.proofs.scheduler.CoreWith.choice.Goals as goal

pub choose-requires-clause-looks : goal.choose-requires-clause-looks
choose-requires-clause-looks g c = looks c.self.inside.setting c.self.inside.table (c.self.invariant.1 (rw (← c.self.view_is) at c.requires.unspent))
