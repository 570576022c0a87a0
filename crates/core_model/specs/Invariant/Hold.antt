-- The invariant of the flag owner's hold.
use Rattle.core_model.specs.State.{Hold}
use Rattle.core_model.specs.Words.{CallState, Out, Status, Pending}
use Rattle.std.specs.Prelude.{Bool, None, Option, Some, false, true, ℕ, ◌<◌, ◌≡◌, ◌≢◌, ◌≤◌}

abbrev pub is_published : Option Hold → Bool
is_published None = false
is_published (Some h) = h.published

-- The flag is owned exactly while there is a hold, whose `worker` is the owner.
abbrev pub HoldInvariant : ℕ → (ℕ → Status) → (ℕ → CallState) → Option Hold → Type 0
HoldInvariant workers status call None = Unit {0}
HoldInvariant workers status call (Some h) =
    -- the owner's call is out, and there were at most as many looks as workers
    (call h.worker ≡ Out) × (h.looks ≤ workers)
    -- only workers that were looked at are taken
    × ((u : ℕ) → h.taken u ≡ true → u < h.looks)
    -- after the publish, all workers were looked at and some worker is taken
    × (h.published ≡ true → h.looks ≡ workers)
    × (h.published ≡ true → (u : ℕ) × (h.taken u ≡ true))
    -- only taken workers are answered, and only after the publish
    × ((u : ℕ) → h.answered u ≡ true → h.taken u ≡ true)
    × ((u : ℕ) → h.answered u ≡ true → h.published ≡ true)
    -- once the owner was looked at, its own call is not pending
    × (h.worker < h.looks → status h.worker ≢ Pending)
