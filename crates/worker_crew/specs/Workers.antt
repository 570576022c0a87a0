-- The view of one worker in contracts, and when a worker belongs to a crew.
use Rattle.std.specs.Prelude.{ℕ, ◌≡◌, []}
use Rattle.two_deques.specs.declared.spot.Spot.{Spot}
use Rattle.two_deques.specs.Ends.{HeldEnds}
use Rattle.two_deques.specs.Hands.{held, workers_of, IsHandOf}
use Rattle.two_deques.specs.Tries.{TriesView}
use Rattle.piece_board.specs.declared.view.DeskView.{DeskView}
use Rattle.piece_board.specs.Boards.{desk_view, IsDeskOf}
use Rattle.leaf_work.specs.declared.brand.WorkBrand.{Ghosts as BrandOf}
use Rattle.leaf_work.specs.declared.function.LeafWork.{Ghosts as WorkOf}
use Rattle.launch_batch.specs.declared.piece.PieceIn.{PieceIn}
use Rattle.core_table.specs.Passes.{IsPassOf, pass_view}
use Rattle.worker_crew.specs.declared.crew.Crew.{Crew}
use Rattle.worker_crew.specs.declared.crew.Me.{Me}
use Rattle.worker_crew.specs.Words.{Idle}
use Rattle.table_rule.specs.declared.view.PassView.{PassView}
use Rattle.worker_crew.specs.Passes.{IsFree}

-- The view of a worker: its pass, its ends of the deques of nodes (`core`) and of the deques of pieces (`batch`), its
-- desk, and its tries.
pub record WorkerView : Type 0 where
  pub pass : PassView
  pub core : HeldEnds ℕ
  pub batch : HeldEnds Spot
  pub desk : DeskView PieceIn
  pub tries : TriesView

abbrev pub me_seen : Me → WorkerView
me_seen me = record {
  pass = pass_view me.pass;
  core = (held me.hand).core;
  batch = (held me.hand).batch;
  desk = desk_view me.desk;
  tries = me.tries;
}

-- The pass belongs to the crew's table, the hand to its deques and the desk to its board. All of them, and the tries, are
-- of one and the same worker number, and the tries and the deques agree on the number of workers.
pub record IsMeOf {G B W : Type 0} {b : BrandOf B} {w : WorkOf W} (crew : Crew G B W b w) (me : Me) : Type 0 where
  pub pass : IsPassOf crew.table me.pass
  pub hand : IsHandOf crew.decks me.hand
  pub desk : IsDeskOf crew.board me.desk
  pub worker : (pass_view me.pass).worker ≡ (held me.hand).worker
  pub row : (desk_view me.desk).row ≡ (held me.hand).worker
  pub tries : me.tries.worker ≡ (held me.hand).worker
  pub workers : me.tries.workers ≡ workers_of crew.decks

-- The worker may take the turn of a free worker: it has no call out, no flag and no task, and all places of its row on
-- the board are free.
pub record IsReady {G B W : Type 0} {b : BrandOf B} {w : WorkOf W} (crew : Crew G B W b w) (me : Me) : Type 0 where
  pub own : IsMeOf crew me
  pub free : IsFree (pass_view me.pass)
  pub idle : (pass_view me.pass).task ≡ Idle
  pub row : (desk_view me.desk).posted ≡ []
