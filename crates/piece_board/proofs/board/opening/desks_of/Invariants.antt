use Rattle.std.proofs.Common.{◌≡◌, ◌≤◌, []}
use Rattle.piece_board.specs.Rule.{fresh_view}
use Rattle.piece_board.specs.Boards.{workers_of, AreDesksUpTo}
use Rattle.piece_board.proofs.board.opening.desks_of.Given as goal

abbrev pub invariant-loop-row : goal.invariant-loop-row
invariant-loop-row g l = record {
  table : l.seat.table_id ≡ l.board.table.shared.table_id;
  left : l.seat.me ≡ (fresh_view l.row (workers_of l.board), []);
  rows : l.row ≤ workers_of l.board;
  desks : AreDesksUpTo l.row l.board l.desks.items;
}
