use Rattle.std.proofs.Common.{◌≡◌}
use Rattle.two_deques.specs.Hands.{held}
use Rattle.piece_board.specs.Boards.{desk_view}
use Rattle.core_table.specs.Passes.{pass_view}
use Rattle.worker_crew.specs.Workers.{IsMeOf, me_seen}
use Rattle.worker_turns.specs.Launches.{LooksWhileWaiting}
use Rattle.worker_turns.specs.Code.Popping.{OnlyStole}
use Rattle.worker_turns.specs.Stops.{HasOnlyLooked}
use Rattle.worker_turns.specs.Pieces.{DrainsRow}
use Rattle.worker_turns.proofs.pieces.serving.collect_one.Given as goal

abbrev pub invariant-loop : goal.invariant-loop
invariant-loop g l = record {
  me : IsMeOf l.crew l.me;
  core : (held l.me.hand).core ≡ (held l.initial.me.hand).core;
  stole : OnlyStole (held l.initial.me.hand).batch (held l.me.hand).batch;
  waits : LooksWhileWaiting (me_seen l.initial.me) (me_seen l.me);
  seen : HasOnlyLooked (pass_view l.initial.me.pass) (pass_view l.me.pass);
  desk : DrainsRow 0 (desk_view l.initial.me.desk) (desk_view l.me.desk);
}
