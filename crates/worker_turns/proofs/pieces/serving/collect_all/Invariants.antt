use Rattle.std.proofs.Common.{◌≡◌, ◌≤◌, List, length, map, take}
use Rattle.two_deques.specs.Hands.{held}
use Rattle.piece_board.specs.Boards.{desk_view}
use Rattle.seq_objects.specs.Pieces.{AllMeet}
use Rattle.launch_batch.specs.declared.piece.PieceIn.{PieceIn}
use Rattle.launch_batch.specs.Pieces.{Meets}
use Rattle.core_table.specs.Passes.{pass_view}
use Rattle.worker_crew.specs.Workers.{IsMeOf, me_seen}
use Rattle.worker_turns.specs.Launches.{LooksWhileWaiting}
use Rattle.worker_turns.specs.Code.Popping.{OnlyStole}
use Rattle.worker_turns.specs.Stops.{HasOnlyLooked}
use Rattle.worker_turns.specs.Pieces.{DrainsRow, with_place}
use Rattle.worker_turns.proofs.pieces.serving.collect_all.Given as goal

abbrev pub invariant-loop-k : goal.invariant-loop-k
invariant-loop-k g l = record {
  me : IsMeOf l.crew l.me;
  core : (held l.me.hand).core ≡ (held l.initial.me.hand).core;
  stole : OnlyStole (held l.initial.me.hand).batch (held l.me.hand).batch;
  waits : LooksWhileWaiting (me_seen l.initial.me) (me_seen l.me);
  seen : HasOnlyLooked (pass_view l.initial.me.pass) (pass_view l.me.pass);
  desk : DrainsRow l.k (desk_view l.initial.me.desk) (desk_view l.me.desk);
  meet : (ins : List PieceIn) → (desk_view l.initial.me.desk).posted ≡ map with_place ins → AllMeet Meets (take l.k ins) l.outs.items;
  inside : l.k ≤ length l.places;
}
