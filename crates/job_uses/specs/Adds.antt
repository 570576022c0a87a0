-- The job of two additions.
use Rattle.std.specs.Prelude.{◌≡◌, ℕ, [], ◌∷◌}
use Rattle.sp_order.specs.Jobs.{JobValue}
use Rattle.sp_order.specs.Phases.{HasNoSources}
use Rattle.job_uses.specs.Sums.{add_of}

-- one leaf adds the first number to the counter, and the other one the second
pub record AddsTwo (first second : ℕ) (job : JobValue) : Type 0 where
  pub acts : job.acts ≡ add_of first ∷ add_of second ∷ []
  pub plain : HasNoSources job
