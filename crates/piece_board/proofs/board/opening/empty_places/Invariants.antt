use Rattle.std.proofs.Common.{◌≡◌, replicate}
use Rattle.piece_board.specs.declared.view.Content.TheVariants.{Nothing}
use Rattle.piece_board.proofs.board.opening.empty_places.Given as goal

abbrev pub invariant-loop : goal.invariant-loop
invariant-loop g l = l.places.items ≡ replicate l.counter Nothing
