use Rattle.std.proofs.Common.{◌≡◌, []}
use Rattle.piece_board.specs.Boards.{desk_view}
use Rattle.core_table.specs.Passes.{pass_view}
use Rattle.worker_crew.specs.Passes.{IsFree}
use Rattle.worker_crew.specs.Workers.{IsMeOf, me_seen}
use Rattle.worker_turns.specs.Free.{RanToIdle}
use Rattle.worker_turns.proofs.carry.run_to_idle.Given as goal

abbrev pub invariant-loop : goal.invariant-loop
invariant-loop g l = record {
  me : IsMeOf l.crew l.me;
  free_pass : IsFree (pass_view l.me.pass);
  free : (desk_view l.me.desk).posted ≡ [];
  carried : RanToIdle (me_seen l.initial.me) (me_seen l.me);
}
