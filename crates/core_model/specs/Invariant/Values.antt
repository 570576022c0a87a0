-- The invariant of the leaves' values.
use Rattle.core_model.specs.Words.{Progress, Task, Ended, Kept, LeafNode}
use Rattle.core_model.specs.Operations.{value_under}
use Rattle.core_model.specs.State.{CoreJob, State}
use Rattle.core_model.specs.Tasks.{is_done}
use Rattle.std.specs.Prelude.{Some, true, ℕ, ◌≡◌, ◌⊎◌}

-- the leaf is done, kept or ended
abbrev pub IsKept : (ℕ → Progress) → (ℕ → Task) → ℕ → Type 0
IsKept node task n =
    (is_done (node n) ≡ true) ⊎ (((w : ℕ) × (s : ℕ) × (task w ≡ Kept n s)) ⊎ ((w : ℕ) × (s : ℕ) × (e : ℕ) × (task w ≡ Ended n s e)))

-- The values of the leaves.
pub record ValuesInvariant (job : CoreJob) (s : State) : Type 0 where
  -- each leaf that is done, kept or ended has the value that it has under the book
  pub values : (n leaf : ℕ) → job.plan.kind n ≡ Some (LeafNode leaf) → IsKept s.node s.task n
      → (value : ℕ) × (s.value n ≡ Some value) × (value_under job s.book leaf ≡ Some value)
