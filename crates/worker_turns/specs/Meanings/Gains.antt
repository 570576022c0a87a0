-- The change of a worker's ends of the deques in a turn: which lists grew or shrank, and by what.
use Rattle.std.specs.Prelude.{ℕ, ◌≡◌, ◌≢◌, ◌<◌, List, ◌++◌, length, slice_index_or}
use Rattle.two_deques.specs.declared.spot.Spot.{Spot}
use Rattle.two_deques.specs.Ends.{HeldEnds, stolen_from, risen}
use Rattle.worker_crew.specs.Workers.{WorkerView}
use Rattle.worker_turns.specs.Pieces.{piece_try}

-- the new list is the old one with `more` behind it
abbrev pub GrewBy : {T : Type 0} → List T → List T → List T → Type 0
GrewBy more old new = new ≡ old ++ more

-- a spot as a pair of row and place, the form in a desk's lists
abbrev pub on_board : Spot → ℕ × ℕ
on_board spot = (spot.row, spot.place)

module _ {T : Type 0} where
  -- the count of pops of the own deque that found nothing rose by one (saturating, see `risen`)
  abbrev pub EmptyPopsRose : HeldEnds T → HeldEnds T → Type 0
  EmptyPopsRose old new = new.empty_pops ≡ risen old.empty_pops

  -- the number of steals at the victim's deque that found nothing; 0 if there is no such worker
  abbrev pub failed_at : ℕ → HeldEnds T → ℕ
  failed_at victim e = slice_index_or e.failed_steals victim 0

  -- this number rose by one (saturating)
  abbrev pub FailedRose : ℕ → HeldEnds T → HeldEnds T → Type 0
  FailedRose victim old new = failed_at victim new ≡ risen (failed_at victim old)

  -- the hand took exactly these tasks from the victim's deque, in this order, and none from any other
  pub record Took (victim : ℕ) (taken : List T) (old new : HeldEnds T) : Type 0 where
    pub there : GrewBy taken (stolen_from victim old) (stolen_from victim new)
    pub elsewhere : (u : ℕ) → u ≢ victim → stolen_from u new ≡ stolen_from u old

  -- Tasks `lost` left the own list at its newest end, and the hand took `taken` from the victim's deque.
  pub record Gained (victim : ℕ) (lost taken : List T) (old new : HeldEnds T) : Type 0 where
    pub own : old.own ≡ new.own ++ lost
    pub took : Took victim taken old new

  -- no task left the own list, and the hand took none
  pub record GainedNone (old new : HeldEnds T) : Type 0 where
    pub own : new.own ≡ old.own
    pub stolen : new.stolen ≡ old.stolen

  -- the ends cover the deques of exactly `workers` workers
  pub record HasEachEnd (workers : ℕ) (e : HeldEnds T) : Type 0 where
    pub stolen : length e.stolen ≡ workers
    pub failed : length e.failed_steals ≡ workers

-- the victim of the next steal of pieces
abbrev pub next_victim : WorkerView → ℕ
next_victim m = (piece_try m.tries).victim

-- there is at least one worker, and the ends of both kinds cover all workers' deques
pub record HasAllEnds (m : WorkerView) : Type 0 where
  pub some : 0 < m.tries.workers
  pub core : HasEachEnd m.tries.workers m.core
  pub batch : HasEachEnd m.tries.workers m.batch
