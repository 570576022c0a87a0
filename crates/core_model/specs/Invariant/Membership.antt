-- Which calls have entries in the book.
use Rattle.core_model.specs.Invariant.Hold.{is_published}
use Rattle.core_model.specs.Operations.{IsCall, Place, place_of}
use Rattle.core_model.specs.State.{CoreJob, State}
use Rattle.core_model.specs.Words.{Ran, Got, Receipt, Executing, Served, Ended, Kept, Started, LeafNode}
use Rattle.std.specs.Prelude.{Some, true, ℕ, ◌≡◌, ◌⊎◌}

-- node `n`'s leaf, if it calls, must have an entry in the book, by worker `w`
abbrev pub IsBooked : State → ℕ → ℕ → Type 0
IsBooked s n w =
    -- `w` has finished it
    ((a : ℕ) × (e : ℕ) × (s.node n ≡ Ran w a e))
    -- or `w`'s task is the leaf, kept or ended
    ⊎ (((a : ℕ) × (s.task w ≡ Kept n a))
    ⊎ (((a : ℕ) × (e : ℕ) × (s.task w ≡ Ended n a e))
    -- or `w` has started it, and has its receipt, or is executing under a published hold
    ⊎ ((a : ℕ) × (s.task w ≡ Started n a)
    × (((receipt : Receipt) × (s.call w ≡ Got receipt))
    ⊎ (((receipt : Receipt) × (s.status w ≡ Served receipt))
    ⊎ ((s.status w ≡ Executing) × (is_published s.hold ≡ true)))))))

-- The calls in the book.
pub record MembershipInvariant (job : CoreJob) (s : State) : Type 0 where
  -- a calling leaf has an entry exactly if it is booked, by the worker it is booked for
  pub only : (n leaf : ℕ) → job.plan.kind n ≡ Some (LeafNode leaf) → IsCall job leaf
      → (place : Place) → place_of s.book leaf ≡ Some place → IsBooked s n place.entry.worker
  pub each : (n leaf : ℕ) → job.plan.kind n ≡ Some (LeafNode leaf) → IsCall job leaf
      → (w : ℕ) → IsBooked s n w → (place : Place) × (place_of s.book leaf ≡ Some place) × (place.entry.worker ≡ w)
