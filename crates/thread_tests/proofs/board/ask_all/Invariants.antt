use Rattle.std.proofs.Common.{◌≡◌, None}
use Rattle.piece_board.specs.Desks.{posted_at}
use Rattle.piece_board.specs.Boards.{desk_view, IsDeskOf}
use Rattle.thread_tests.proofs.board.ask_all.Given as goal

abbrev pub invariant-loop-input : goal.invariant-loop-input
invariant-loop-input l = IsDeskOf l.board l.desk × (posted_at 3 (desk_view l.desk) ≡ None)
