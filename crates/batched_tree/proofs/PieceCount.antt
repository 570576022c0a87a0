-- How many pieces a batch is cut into.
use Rattle.std.proofs.Common.{◌≡◌, ℕ, List, length, ◌∙◌}
use Rattle.key_sets.proofs.GroupLemmas.Placing.{counted_groups}
use Rattle.seq_objects.specs.declared.call.Call.{Call}
use Rattle.seq_objects.specs.Serial.{of_set}
use Rattle.batched_tree.specs.declared.piece.Piece.{Piece}
use Rattle.batched_tree.specs.Calls.{distinct_keys}
use Rattle.batched_tree.specs.Pieces.{Cut, piece_count}
use Rattle.batched_tree.proofs.BeginLemmas.Ranges.{piece_each}

pub pieces_counted : (set : List ℕ) (calls : List Call) (pieces : List Piece)
    → Cut set calls pieces → length pieces ≡ piece_count (of_set set) calls
pieces_counted set calls pieces cut =
    piece_each set calls 0 cut.groups pieces cut.pieces ∙ counted_groups (distinct_keys calls) cut.groups cut.groups_are
