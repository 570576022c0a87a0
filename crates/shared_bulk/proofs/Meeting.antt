-- Outputs that meet the inputs of pieces, in the words of both crates that pieces come from.
use Rattle.std.proofs.Common.{List, [], ◌∷◌}
use Rattle.seq_objects.specs.Pieces.{AllMeet}
use Rattle.shared_pieces.specs.Batches.{AllMeet as AllMeetShared}

pub all_meet : {In Out : Type 0} (meets : In → Out → Type 0) (ins : List In) (outs : List Out) → AllMeetShared meets ins outs → AllMeet meets ins outs
all_meet meets [] [] met = tt
all_meet meets [] (out ∷ outs) met = absurd met
all_meet meets (input ∷ ins) [] met = absurd met
all_meet meets (input ∷ ins) (out ∷ outs) met = (met.0, all_meet meets ins outs met.1)
