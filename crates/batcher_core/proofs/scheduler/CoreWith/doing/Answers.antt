use Rattle.core_state.proofs.CodeLemmas.CoreFits.{looks, trapped_has_leaf}
use Rattle.batcher_core.proofs.scheduler.CoreWith.doing.Goals as goal

pub doing-requires-clause-looks : goal.doing-requires-clause-looks
doing-requires-clause-looks g c = looks c.self.inside.setting c.self.inside.table (c.self.invariant.1 c.if-self.false)

pub doing-requires-clause-trapped : goal.doing-requires-clause-trapped
doing-requires-clause-trapped g c = trapped_has_leaf c.self.inside.setting c.self.inside.table (c.self.invariant.1 c.if-self.false) c.args.worker
