use Rattle.batched_tree.proofs.PieceCount.{pieces_counted}
use Rattle.batched_tree.proofs.laws.cut_fixes_the_number_of_pieces.Goals as goal

pub returns : goal.returns
returns c = pieces_counted
