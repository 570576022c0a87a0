-- The handle of a leaf: the number of its job, and its own number in the job.
use Rattle.std.specs.Prelude.{ℕ}

pub record HandleValue : Type 0 where
  pub job : ℕ
  pub leaf : ℕ
