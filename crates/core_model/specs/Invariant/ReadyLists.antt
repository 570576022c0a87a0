-- The invariant of the lists of ready nodes.
use Rattle.core_model.specs.Lists.{times}
use Rattle.core_model.specs.Words.{Progress, Ready}
use Rattle.std.specs.Prelude.{List, ℕ, ◌<◌, ◌≡◌, ◌≢◌}

-- each ready node is in the list of exactly one worker, once; and lists contain ready nodes only
pub record ReadyListsInvariant (workers : ℕ) (node : ℕ → Progress) (ready : ℕ → List ℕ) : Type 0 where
  pub each : (n : ℕ) → node n ≡ Ready → (w : ℕ) × (w < workers) × (times n (ready w) ≡ 1) × ((v : ℕ) → v ≢ w → times n (ready v) ≡ 0)
  pub only : (n w : ℕ) → times n (ready w) ≢ 0 → node n ≡ Ready
