-- What contracts see of hands and of deques, and which hands belong to which deques.
use Rattle.std.specs.Prelude.{ℕ, ◌≡◌, ◌<◌, ◌≤◌, List, length, slice_index_or}
use Rattle.crossbeam_deque.specs.Handles.{worker_deque, stealer_deque, worker_capacity}
use Rattle.two_deques.specs.declared.ends.Ends.{Ends}
use Rattle.two_deques.specs.declared.spot.Spot.{Spot}
use Rattle.two_deques.specs.declared.hand.Hand.{Hand}
use Rattle.two_deques.specs.declared.decks.Decks.{Decks}
use Rattle.two_deques.specs.Ends.{HeldEnds, held_ends, fresh_ends}
use Rattle.two_deques.specs.Reaches.{Thief, ReachEach}

-- the hand's worker, its ends of the deques of ready nodes, and its ends of the deques of pieces
pub record Held : Type 0 where
  pub worker : ℕ
  pub core : HeldEnds ℕ
  pub batch : HeldEnds Spot

abbrev pub held : Hand → Held
held h = record { worker = h.worker; core = held_ends h.core; batch = held_ends h.batch }

-- the initial hand of `worker` among `workers` workers
abbrev pub fresh_hand : ℕ → ℕ → Held
fresh_hand worker workers = record {
  worker = worker;
  core = fresh_ends ℕ workers;
  batch = fresh_ends Spot workers;
}

-- the number of workers
abbrev pub workers_of : Decks → ℕ
workers_of d = length d.core.items

-- how many pushes each deque of ready nodes is guaranteed to take over its lifetime
abbrev pub core_room_of : Decks → ℕ
core_room_of d = d.core_room

-- how many pushes each deque of pieces is guaranteed to take over its lifetime
abbrev pub batch_room_of : Decks → ℕ
batch_room_of d = d.batch_room

-- `e` is `worker`'s ends of the deques of `thieves`, and the capacity of its own deque is at least `room`
pub record AreEndsOf {T : Type 0} (thieves : List (Thief T)) (room worker : ℕ) (e : Ends T) : Type 0 where
  pub own : (t : Thief T) → t ≡ slice_index_or thieves worker t → worker_deque e.own ≡ stealer_deque t
  pub fits : room ≤ worker_capacity e.own
  pub reaches : ReachEach thieves e.reaches.items

-- the hand belongs to these deques: its worker is one of theirs, and its ends are of these deques
pub record IsHandOf (d : Decks) (h : Hand) : Type 0 where
  pub below : h.worker < workers_of d
  pub alike : length d.batch.items ≡ workers_of d
  pub core : AreEndsOf d.core.items d.core_room h.worker h.core
  pub batch : AreEndsOf d.batch.items d.batch_room h.worker h.batch

-- the initial hands of the first `n` of `workers` workers, in their order
pub record AreHandsUpTo (n workers : ℕ) (d : Decks) (hands : List Hand) : Type 0 where
  pub count : length hands ≡ n
  pub each : (w : ℕ) (h : Hand) → w < n → h ≡ slice_index_or hands w h
      → IsHandOf d h × (held h ≡ fresh_hand w workers)

-- the initial hands of all workers, in their order
abbrev pub AreHands : Decks → List Hand → Type 0
AreHands d hands = AreHandsUpTo (workers_of d) (workers_of d) d hands
