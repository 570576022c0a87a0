use Rattle.core_state.proofs.ChoiceLemmas.Allowed.{room}
use Rattle.core_state.proofs.state.State.apply.Goals as goal

pub start-requires-clause-room : goal.start-requires-clause-room
start-requires-clause-room g c = room _ _ _ c.args.worker c.requires.fits

pub end-requires-clause-room : goal.end-requires-clause-room
end-requires-clause-room g c = room _ _ _ c.args.worker c.requires.fits
