use Rattle.std.proofs.Common.{sym, ◌∙◌}
use Rattle.batcher_core.proofs.CodeLemmas.Turning.{makes_none}
use Rattle.batcher_core.proofs.scheduler.CoreWith.advance.Goals as goal

pub returns-in-Ok-None-clause-event : goal.returns-in-Ok-None-clause-event
returns-in-Ok-None-clause-event g c =
    let below = rw (← c.self.view_is) at c.requires.worker_in in
    let none = rw (← c.self.view_is) at (sym c.in-Ok-None.ensures ∙ c.in-Ok-None.field-0-is) in
    rw (← c.self.view_is) (makes_none c.self.inside.setting.job c.self.inside.setting.workers c.self.inside.table c.args.worker (c.self.invariant.1 c.if-self.false) below none)
