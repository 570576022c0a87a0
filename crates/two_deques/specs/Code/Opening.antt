-- The progress of the construction of all workers' ends.
use Rattle.std.specs.Prelude.{ℕ, ◌≡◌, ◌≤◌, ◌<◌, List, [], length, replicate, slice_index_or}
use Rattle.crossbeam_deque.specs.Handles.{worker_deque, stealer_deque, worker_capacity}
use Rattle.two_deques.specs.declared.ends.Ends.{Ends}
use Rattle.two_deques.specs.Reaches.{Thief, ReachEach}
use Rattle.two_deques.specs.Ends.{held_ends}

-- the worker's own deque has capacity for at least `room`, and was never pushed to or popped from in vain
abbrev pub IsNew : {T : Type 0} → ℕ → Ends T → Type 0
IsNew room e = (room ≤ worker_capacity e.own) × ((held_ends e).own ≡ []) × ((held_ends e).pushes ≡ 0)
    × ((held_ends e).empty_pops ≡ 0)

-- there is a reach into each deque, by which nothing was stolen or tried in vain; there are `n` of them
abbrev pub HasReaches : {T : Type 0} → ℕ → List (Thief T) → Ends T → Type 0
HasReaches n thieves e = ReachEach thieves e.reaches.items × ((held_ends e).stolen ≡ replicate n [])
    × ((held_ends e).failed_steals ≡ replicate n 0)

-- the new ends of `n` workers; those of the first `k` already have their reaches
pub record AreMade {T : Type 0} (k n room : ℕ) (thieves : List (Thief T)) (all : List (Ends T))
    : Type 0 where
  pub thieves_count : length thieves ≡ n
  pub ends_count : length all ≡ n
  pub own : (w : ℕ) (t : Thief T) (e : Ends T) → w < n → t ≡ slice_index_or thieves w t
      → e ≡ slice_index_or all w e → worker_deque e.own ≡ stealer_deque t
  pub fresh : (w : ℕ) (e : Ends T) → w < n → e ≡ slice_index_or all w e → IsNew room e
  pub reached : (w : ℕ) (e : Ends T) → w < k → e ≡ slice_index_or all w e → HasReaches n thieves e
