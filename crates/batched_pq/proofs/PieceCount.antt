-- How many pieces a batch is cut into.
use Rattle.std.proofs.Common.{◌≡◌, ℕ, List, length, arith}
use Rattle.seq_objects.specs.declared.call.Call.{Call}
use Rattle.seq_objects.specs.Serial.{of_bag}
use Rattle.batched_pq.specs.declared.piece.Piece.{Piece}
use Rattle.batched_pq.specs.Calls.{inserts_of, takes_of}
use Rattle.batched_pq.specs.Pieces.{Cut, piece_count}
use Rattle.batched_pq.proofs.BeginLemmas.Dealing.{pieces_count}

pub pieces_counted : (bag : List ℕ) (calls : List Call) (pieces : List Piece)
    → Cut bag calls pieces → length pieces ≡ piece_count (of_bag bag) calls
pieces_counted bag calls pieces cut = omega (arith, pieces_count 0 (inserts_of calls) (takes_of calls) pieces cut.pieces)
