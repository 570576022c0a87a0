use Rattle.std.proofs.Common.{◌≡◌}
use Rattle.two_deques.specs.Hands.{held}
use Rattle.piece_board.specs.Boards.{desk_view}
use Rattle.worker_crew.specs.Workers.{IsMeOf, me_seen}
use Rattle.worker_turns.specs.Launches.{LooksWhileWaiting}
use Rattle.worker_turns.specs.Pieces.{DrainsRow}
use Rattle.worker_turns.specs.Code.Popping.{Pops}
use Rattle.worker_turns.proofs.pieces.serving.run_own.Given as goal

abbrev pub invariant-loop : goal.invariant-loop
invariant-loop g l = record {
  me : IsMeOf l.crew l.me;
  core : (held l.me.hand).core ≡ (held l.initial.me.hand).core;
  waits : LooksWhileWaiting (me_seen l.initial.me) (me_seen l.me);
  pops : Pops (held l.initial.me.hand).batch (held l.me.hand).batch;
  pass : l.me.pass ≡ l.initial.me.pass;
  desk : DrainsRow 0 (desk_view l.initial.me.desk) (desk_view l.me.desk);
}
