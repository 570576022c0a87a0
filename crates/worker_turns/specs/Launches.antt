-- The effect of a launch.
use Rattle.std.specs.Prelude.{ℕ, zero, suc, ◌≡◌, ◌≤◌, ◌==◌, ◌+◌, ◌⊎◌, if◌then◌else◌, None, Some, List, [], ◌∷◌, ◌++◌, length, map}
use Rattle.seq_objects.specs.declared.call.Call.{Call}
use Rattle.seq_objects.specs.Batches.{AreInBatchOrder}
use Rattle.core_model.specs.Words.{Entry}
use Rattle.core_model.specs.declared.event.Event.TheVariants.{Take, Publish, Answer, Release}
use Rattle.two_deques.specs.declared.spot.Spot.{Spot}
use Rattle.two_deques.specs.Ends.{HeldEnds, risen}
use Rattle.launch_batch.specs.Calls.{ArePermutations}
use Rattle.launch_batch.specs.Places.{places}
use Rattle.worker_crew.specs.Words.{Event}
use Rattle.table_rule.specs.declared.status.TheConstants.{PENDING}
use Rattle.table_rule.specs.declared.view.HoldView.{HoldView}
use Rattle.worker_turns.specs.Holds.{TookNone, ServedAll}
use Rattle.worker_crew.specs.Workers.{WorkerView}
use Rattle.worker_turns.specs.Pieces.{Desk}

-- Pieces were posted at exactly these places of the own row, in this order, as many results were collected, and the row
-- is free. Meanwhile, the worker finished as many pieces as it claimed.
pub record ExecutesPieces (posted : List ℕ) (old new : Desk) : Type 0 where
  pub posts : new.posts ≡ old.posts ++ posted
  pub collects : new.collects ≡ old.collects + length posted
  pub free : new.posted ≡ []
  pub given : List (ℕ × ℕ)
  pub gave : new.given ≡ old.given ++ given
  pub finishes : new.finishes ≡ old.finishes + length given
  pub row : new.row ≡ old.row

-- the spots of these places in a worker's row
abbrev pub spots_of : ℕ → List ℕ → List Spot
spots_of row places = map (λ place. record { row = row; place = place }) places

-- A worker pushed these spots on its own deque of pieces, and then popped this deque until a pop gave nothing. What it
-- stole from other deques meanwhile is not said.
pub record HandsOut (spots : List Spot) (old new : HeldEnds Spot) : Type 0 where
  pub popped : List Spot
  pub own : old.own ++ spots ≡ new.own ++ popped
  pub pushes : new.pushes ≡ old.pushes + length spots
  pub emptied : new.empty_pops ≡ risen old.empty_pops

-- Each look for a result that found none was followed by a look at the stop word, which found it unset.
abbrev pub LooksWhileWaiting : WorkerView → WorkerView → Type 0
LooksWhileWaiting old new =
    new.desk.empty_collects + old.pass.stop_looks ≤ old.desk.empty_collects + new.pass.stop_looks

-- `posted` is the list of places of the pieces of a batch of these calls, put in batch order, after the book.
abbrev pub ArePlaces : List (List Entry) → List Call → List ℕ → Type 0
ArePlaces book calls posted =
    (ordered : List Call) × ArePermutations calls ordered × AreInBatchOrder ordered × (posted ≡ places book ordered)

-- `found` has the statuses of workers `first`, `first + 1` and so on. The result is the workers
-- whose call was pending.
abbrev pub pending_in : ℕ → List ℕ → List ℕ
pending_in first [] = []
pending_in first (status ∷ found) =
    if status == PENDING then first ∷ pending_in (first + 1) found else pending_in (first + 1) found

-- There is one status for each worker, and the calls are those of exactly the workers found pending, in worker order.
pub record AreFound (workers : ℕ) (found : List ℕ) (calls : List Call) : Type 0 where
  pub each : length found ≡ workers
  pub pending : map (λ call. call.worker) calls ≡ pending_in 0 found

-- The events of a launch: a `Take` for each worker, in order; if there is a batch, its `Publish` and one `Answer` for
-- each of its entries, in batch order; and the `Release`. `number` is the batch's number, and `place` that of the first
-- entry.
abbrev pub look_events : ℕ → List Event
look_events zero = []
look_events (suc u) = look_events u ++ Take u ∷ []

abbrev pub answer_events : ℕ → ℕ → List Entry → List Event
answer_events number place [] = []
answer_events number place (entry ∷ entries) =
    Answer entry.worker (record { batch = number; place = place; reply = entry.reply }) ∷ answer_events number (place + 1) entries

abbrev pub serve_events : ℕ → List Entry → List Event
serve_events number batch = Publish ∷ answer_events number 0 batch

abbrev pub launch_events : ℕ → List Event → List Event
launch_events workers served = look_events workers ++ (served ++ Release ∷ [])

-- Hold `done` has looked at each worker once, and has taken exactly the calls found pending. If there was none, nothing
-- was published, no piece was posted, and `served` is empty. Otherwise the calls were served as one batch after the
-- book, which was published, and all were answered; `posted` has the places of its pieces, and `served` those events.
pub record Collects (workers : ℕ) (book : List (List Entry)) (posted : List ℕ) (served : List Event) (done : HoldView) : Type 0 where
  pub looked : done.looks ≡ workers
  pub found : AreFound workers done.found done.taken
  pub batch : (TookNone done × (done.book ≡ book) × (posted ≡ []) × (served ≡ []))
      ⊎ ((batch : List Entry) × ServedAll book batch done × ArePlaces book done.taken posted
      × (served ≡ serve_events (length book) batch))

-- A launch by a worker whose win found `book`. At the release the hold was `done`, and its book is the one that the
-- pass has seen. If there was a batch, the spots of its pieces went on the worker's own deque, which it popped until
-- that was empty. While the worker waited for results, it looked at the stop word, and found it unset. The ends of the
-- deques of nodes are unchanged.
pub record Launches (workers : ℕ) (book : List (List Entry)) (old new : WorkerView) : Type 0 where
  pub done : HoldView
  pub posted : List ℕ
  pub served : List Event
  pub gathers : Collects workers book posted served done
  pub released : new.pass ≡ record old.pass {
    hold = None;
    last = Some done;
    book_seen = done.book;
    stop_looks = new.pass.stop_looks;
    events = old.pass.events ++ launch_events workers served;
  }
  pub looks : old.pass.stop_looks ≤ new.pass.stop_looks
  pub waits : LooksWhileWaiting old new
  pub desk : ExecutesPieces posted old.desk new.desk
  pub handed : ((posted ≡ []) × (new.batch ≡ old.batch)) ⊎ HandsOut (spots_of old.desk.row posted) old.batch new.batch
  pub core : new.core ≡ old.core
