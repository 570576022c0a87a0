-- The meaning of each answer of a trapped worker's turn, in counts and lists that grew.
use Rattle.std.specs.Prelude.{◌≡◌, ◌+◌, ◌⊎◌, List, [], ◌∷◌, ◌++◌, map}
use Rattle.two_deques.specs.declared.spot.Spot.{Spot}
use Rattle.two_deques.specs.Ends.{HeldEnds}
use Rattle.worker_crew.specs.Words.{Receipt}
use Rattle.table_rule.specs.declared.view.PassView.{PassView}
use Rattle.table_rule.specs.Passes.{finding_none}
use Rattle.worker_turns.specs.Trapped.{IsLeft}
use Rattle.worker_crew.specs.Workers.{WorkerView}
use Rattle.worker_turns.specs.Meanings.Gains.{GrewBy, on_board, EmptyPopsRose, FailedRose, Gained, next_victim}

-- The pop of the own deque of pieces gave none to run: the count of empty pops rose, or exactly one spot was lost from
-- the own list.
abbrev pub OwnGaveNone : List Spot → HeldEnds Spot → HeldEnds Spot → Type 0
OwnGaveNone lost old new = EmptyPopsRose old new ⊎ ((spot : Spot) × (lost ≡ spot ∷ []))

-- The steal gave no piece to run: there is no other worker; or the count of failed steals at the victim's deque
-- rose; or exactly one spot was taken there.
abbrev pub StealGaveNone : List Spot → WorkerView → WorkerView → Type 0
StealGaveNone taken old new =
    (old.tries.workers ≡ 1) ⊎ (FailedRose (next_victim old) old.batch new.batch
    ⊎ ((spot : Spot) × (taken ≡ spot ∷ [])))

-- one leave and one win were refused
pub record RefusedBoth (old new : PassView) : Type 0 where
  pub leaves : new.refused_leaves ≡ old.refused_leaves + 1
  pub wins : new.refused_wins ≡ old.refused_wins + 1

-- `Nothing`: all four tries failed. The claims of the spots that left the own list, and then of those that the hand
-- took, are exactly the desk's new refusals.
pub record DidNothing (old new : WorkerView) : Type 0 where
  pub lost : List Spot
  pub taken : List Spot
  pub spots : Gained (next_victim old) lost taken old.batch new.batch
  pub dropped : GrewBy (map on_board (lost ++ taken)) old.desk.refused new.desk.refused
  pub own : OwnGaveNone lost old.batch new.batch
  pub refused : RefusedBoth old.pass new.pass
  pub steal : StealGaveNone taken old new

-- `Left`: the pass left with this receipt after one look at the stop word. The claims of the spots that left the own
-- list are exactly the desk's new refusals. There was no try to win and no steal, so the failed steals are unchanged
-- too.
pub record DidLeave (receipt : Receipt) (old new : WorkerView) : Type 0 where
  pub left : IsLeft receipt (finding_none old.pass) new.pass
  pub lost : List Spot
  pub spots : Gained (next_victim old) lost [] old.batch new.batch
  pub dropped : GrewBy (map on_board lost) old.desk.refused new.desk.refused
  pub own : OwnGaveNone lost old.batch new.batch
  pub failed : new.batch.failed_steals ≡ old.batch.failed_steals
  pub tries : new.tries ≡ old.tries

-- Where the piece came from. Either it was the newest of the own list, and nothing else was tried; or the three tries
-- before the steal failed, and the hand took it.
abbrev pub CameBy : Spot → List Spot → List Spot → WorkerView → WorkerView → Type 0
CameBy spot lost taken old new =
    ((lost ≡ spot ∷ []) × (taken ≡ []) × (new.pass ≡ finding_none old.pass) × (new.tries ≡ old.tries))
    ⊎ ((taken ≡ spot ∷ []) × OwnGaveNone lost old.batch new.batch × RefusedBoth old.pass new.pass)

-- `Piece`: one piece was claimed and finished, and none was posted. Its spot is the last of those that left the own
-- list or that the hand took; the claims of the others are exactly the desk's new refusals.
pub record DidPiece (old new : WorkerView) : Type 0 where
  pub spot : Spot
  pub lost : List Spot
  pub taken : List Spot
  pub others : List Spot
  pub spots : Gained (next_victim old) lost taken old.batch new.batch
  pub each : lost ++ taken ≡ others ++ spot ∷ []
  pub given : GrewBy (on_board spot ∷ []) old.desk.given new.desk.given
  pub dropped : GrewBy (map on_board others) old.desk.refused new.desk.refused
  pub finishes : new.desk.finishes ≡ old.desk.finishes + 1
  pub posts : new.desk.posts ≡ old.desk.posts
  pub came : CameBy spot lost taken old new
