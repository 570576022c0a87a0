use Rattle.std.proofs.Common.{◌≡◌, ◌≢◌}
use Rattle.two_deques.specs.Hands.{held, IsHandOf}
use Rattle.piece_board.specs.Boards.{IsDeskOf}
use Rattle.core_table.specs.Passes.{IsPassOf}
use Rattle.table_tests.proofs.workers.leave_a_piece.Given as goal

abbrev pub invariant-loop : goal.invariant-loop
invariant-loop g l = record {
  pass : IsPassOf l.crew.table l.me.pass;
  hand : IsHandOf l.crew.decks l.me.hand;
  desk : IsDeskOf l.crew.board l.me.desk;
  other : (held l.me.hand).worker ≢ 0;
}
