use Rattle.std.proofs.Common.{refl, false}
use Rattle.ready_lists.proofs.PlaceLemmas.Copies.{at_copies}
use Rattle.core_state.proofs.hold.Hold.of.Goals as goal

pub returns : goal.returns
returns c = rw (at_copies 32 false) refl
