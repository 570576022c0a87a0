-- The wait of a trapped worker: at most two batches.
--
-- A worker is trapped while its status is not `Free`. Batches are numbered from 0. If there are `b` batches at a moment
-- when a worker is trapped, its call gets into a batch numbered at most `b + 1`; if the call is pending then, into
-- batch `b` or `b + 1`. So the worker waits for at most two batches: for the one being gathered, which may have looked
-- past it, and for the next.
use Rattle.core_model.specs.Words.{Entry, Event, Status, Executing, Free, Pending, Served, Task, Ended, Half, Handed, Idle, Kept, Run, Started, Whole}
use Rattle.core_model.specs.Events.{Happens}
use Rattle.core_model.specs.Invariant.Hold.{is_published}
use Rattle.core_model.specs.Operations.{Place, leaf_of, place_of}
use Rattle.core_model.specs.State.{CoreJob, Hold, State}
use Rattle.std.specs.Prelude.{List, None, Option, Some, false, length, true, ℕ, ◌+◌, ◌≡◌, ◌≢◌, ◌≤◌, ◌⊎◌}

-- the worker is trapped
abbrev pub IsTrapped : State → ℕ → Type 0
IsTrapped s w = s.status w ≢ Free

-- the leaf of a started task
abbrev pub started_leaf : CoreJob → Task → Option ℕ
started_leaf job Idle = None
started_leaf job (Run n) = None
started_leaf job (Half n) = None
started_leaf job (Started n start) = Some (leaf_of (job.plan.kind n))
started_leaf job (Kept n start) = None
started_leaf job (Ended n start end) = None
started_leaf job (Whole n) = None
started_leaf job (Handed n) = None

-- the place of a leaf's entry, if a leaf is given
abbrev pub leaf_place : List (List Entry) → Option ℕ → Option Place
leaf_place book None = None
leaf_place book (Some leaf) = place_of book leaf

-- the place of the entry of a started task's leaf
abbrev pub task_place : CoreJob → List (List Entry) → Task → Option Place
task_place job book task = leaf_place book (started_leaf job task)

-- there is a place, in a batch numbered at most `batch`
abbrev pub StandsBy : Option Place → ℕ → Type 0
StandsBy None batch = ⊥
StandsBy (Some place) batch = place.batch ≤ batch

-- no unpublished hold has looked past worker `w`
abbrev pub IsNotPassed : Option Hold → ℕ → Type 0
IsNotPassed None w = Unit {0}
IsNotPassed (Some h) w = h.published ≡ false → h.looks ≤ w

-- what a status of worker `w` implies for the number of batches, the hold and its entry's place
abbrev pub StatusWaits : Status → ℕ → Option Hold → Option Place → ℕ → ℕ → Type 0
StatusWaits Free count hold place w since = ⊥
-- no batch was published since, or one was and the next can still take the call
StatusWaits Pending count hold place w since = (count ≡ since) ⊎ ((count ≡ since + 1) × IsNotPassed hold w)
-- unpublished, its batch is the next and numbered at most `since + 1`; published, its entry is in such a batch
StatusWaits Executing count hold place w since =
    (is_published hold ≡ false → (count ≡ since) ⊎ (count ≡ since + 1)) × (is_published hold ≡ true → StandsBy place (since + 1))
StatusWaits (Served receipt) count hold place w since = StandsBy place (since + 1)

-- worker `w` is trapped, and its call is or will be in a batch numbered at most `since + 1`
abbrev pub WaitsSince : CoreJob → State → ℕ → ℕ → Type 0
WaitsSince job s w since = StatusWaits (s.status w) (length s.book) s.hold (task_place job s.book (s.task w)) w since

-- events take `first` to this state, and worker `w` is trapped in every state of the way
pub data StaysTrapped (job : CoreJob) (w : ℕ) (first : State) : State → Type 0 where
  at_once : IsTrapped first w → StaysTrapped job w first first
  by_event : {old new : State} {worker : ℕ} {event : Event} → StaysTrapped job w first old
      → Happens job old worker event new → IsTrapped new w → StaysTrapped job w first new
