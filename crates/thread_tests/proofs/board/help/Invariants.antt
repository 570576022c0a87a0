use Rattle.std.proofs.Common.{◌≤◌}
use Rattle.piece_board.specs.Boards.{IsDeskOf}
use Rattle.thread_tests.proofs.board.help.Given as goal

abbrev pub invariant-loop : goal.invariant-loop
invariant-loop l = IsDeskOf l.board l.desk × (l.finished ≤ 1000)
