use Rattle.std.proofs.Common.{sym, ◌∙◌, ap}
use Rattle.core_state.specs.Abstraction.{book_of, state_of}
use Rattle.batcher_core.proofs.scheduler.CoreWith.history.Goals as goal

pub returns : goal.returns
unfolding state_of
returns g c = rw (← c.self.view_is) (c.if-self.false, c.history.ensures ∙ sym (ap book_of c.in-Some.is))
