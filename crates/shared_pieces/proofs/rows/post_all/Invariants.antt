use Rattle.std.proofs.Common.{◌≡◌, ◌++◌, length}
use Rattle.piece_board.specs.Boards.{desk_view, IsDeskOf}
use Rattle.shared_pieces.specs.Rows.{placed_from}
use Rattle.shared_pieces.proofs.rows.post_all.Given as goal

abbrev pub invariant-loop-input : goal.invariant-loop-input
invariant-loop-input g l = record {
  desk : IsDeskOf l.board l.desk;
  all : l.yielded ++ l.input-iterator.rest.items ≡ l.initial.input-iterator.rest.items;
  place : l.place ≡ length l.yielded;
  posted : (desk_view l.desk).posted ≡ placed_from 0 l.yielded;
}
