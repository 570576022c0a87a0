use Rattle.core_state.proofs.ChoiceLemmas.Allowed.{held_by_needs, take_room}
use Rattle.core_state.proofs.state.State.apply_to_calls.Goals as goal

pub take-requires-clause-room : goal.take-requires-clause-room
take-requires-clause-room g c = take_room _ _ _ c.args.worker c.requires.fits c.in-Take.other (rw c.in-Take.is at c.requires.needs)

pub take-requires-clause-held : goal.take-requires-clause-held
take-requires-clause-held g c = held_by_needs _ _ (rw c.in-Take.is at c.requires.needs).1.0

pub answer-requires-clause-held : goal.answer-requires-clause-held
answer-requires-clause-held g c = held_by_needs _ _ (rw c.in-Answer.is at c.requires.needs).1.0
