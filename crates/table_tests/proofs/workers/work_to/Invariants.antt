use Rattle.std.proofs.Common.{◌≡◌, ◌<◌, None, []}
use Rattle.piece_board.specs.Boards.{desk_view}
use Rattle.core_table.specs.Passes.{pass_view}
use Rattle.worker_crew.specs.Workers.{IsMeOf}
use Rattle.table_tests.proofs.workers.work_to.Given as goal

abbrev pub invariant-loop : goal.invariant-loop
invariant-loop g l = record {
  me : IsMeOf l.crew l.me;
  flag : (pass_view l.me.pass).hold ≡ None;
  row : (desk_view l.me.desk).posted ≡ [];
  node : l.node < 400;
}
