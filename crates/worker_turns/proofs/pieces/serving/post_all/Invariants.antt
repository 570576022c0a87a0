use Rattle.std.proofs.Common.{◌≡◌, ◌++◌, map}
use Rattle.two_deques.specs.Hands.{held}
use Rattle.piece_board.specs.Boards.{desk_view}
use Rattle.launch_batch.specs.Pieces.{place_of}
use Rattle.worker_crew.specs.Workers.{IsMeOf}
use Rattle.worker_turns.specs.Pieces.{after_posts}
use Rattle.worker_turns.specs.Code.Popping.{after_pushes}
use Rattle.worker_turns.specs.Launches.{spots_of}
use Rattle.worker_turns.proofs.pieces.serving.post_all.Given as goal

abbrev pub invariant-loop-input : goal.invariant-loop-input
invariant-loop-input g l = record {
  me : IsMeOf l.crew l.me;
  core : (held l.me.hand).core ≡ (held l.initial.me.hand).core;
  batch : (held l.me.hand).batch ≡ after_pushes (spots_of l.row l.places.items) (held l.initial.me.hand).batch;
  pass : l.me.pass ≡ l.initial.me.pass;
  all : l.yielded ++ l.input-iterator.rest.items ≡ l.initial.input-iterator.rest.items;
  places : l.places.items ≡ map place_of l.yielded;
  desk : desk_view l.me.desk ≡ after_posts l.yielded (desk_view l.initial.me.desk);
  row : l.row ≡ (held l.initial.me.hand).worker;
}
