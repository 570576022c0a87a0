use Rattle.std.proofs.Common.{◌≡◌}
use Rattle.piece_board.specs.Boards.{desk_view, IsDeskOf}
use Rattle.shared_pieces.proofs.rows.collect_one.Given as goal

abbrev pub invariant-loop : goal.invariant-loop
invariant-loop g l = record {
  desk : IsDeskOf l.board l.desk;
  own : (desk_view l.desk).posted ≡ (desk_view l.fn.desk).posted;
}
