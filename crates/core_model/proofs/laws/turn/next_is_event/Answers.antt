use Rattle.std.proofs.Common.{refl}
use Rattle.core_model.specs.Next.{next_act}
use Rattle.core_model.proofs.ChoiceLemmas.NextActs.{acts_some, next_acts, task_acts}
use Rattle.core_model.proofs.Inductive.FromParts.{parts_carried}
use Rattle.core_model.proofs.laws.turn.next_is_event.Goals as goal

pub returns-clause-event : goal.returns-clause-event
returns-clause-event c job state worker act laws sources parts free is = next_acts job state worker act laws sources (parts_carried job state parts) free is

pub returns-clause-some : goal.returns-clause-some
returns-clause-some c job state worker laws sources parts free busy =
    let kept = parts_carried job state parts in
    acts_some job state worker (next_act job (state.task worker) (state.call worker)) (task_acts job state worker laws sources kept free (state.task worker) refl busy (kept.tasks.fits worker))
