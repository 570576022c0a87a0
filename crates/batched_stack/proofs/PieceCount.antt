-- How many pieces a batch is cut into.
use Rattle.std.proofs.Common.{◌≡◌, List, length, sym, ap, ◌∙◌}
use Rattle.std.proofs.lemmas.List.{length-map}
use Rattle.seq_objects.specs.declared.call.Call.{Call}
use Rattle.seq_objects.specs.Serial.{of_stack}
use Rattle.batched_stack.specs.Stripes.{StackView}
use Rattle.batched_stack.specs.declared.piece.Piece.{Piece}
use Rattle.batched_stack.specs.Pieces.{Cut, piece_count}

pub pieces_counted : (stack : StackView) (calls : List Call) (pieces : List Piece)
    → Cut stack calls pieces → length pieces ≡ piece_count (of_stack stack.items) calls
pieces_counted stack calls pieces cut = sym (length-map pieces (λ (piece : Piece). piece.number)) ∙ ap length cut.numbers
