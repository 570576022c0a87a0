use Rattle.std.proofs.Common.{◌≡◌, Some}
use Rattle.piece_board.specs.Desks.{posted_at}
use Rattle.piece_board.specs.Boards.{desk_view, IsDeskOf}
use Rattle.thread_tests.proofs.board.ask.Given as goal

abbrev pub invariant-loop : goal.invariant-loop
invariant-loop l = IsDeskOf l.board l.desk × (posted_at 3 (desk_view l.desk) ≡ Some l.input)
