-- The job that pays interest on a deposit.
use Rattle.std.specs.Prelude.{◌≡◌, ℕ, ◌*◌, ◌/◌, [], ◌∷◌, None, Some}
use Rattle.seq_objects.specs.declared.act.Act.TheVariants.{Work}
use Rattle.sp_order.specs.Jobs.{JobValue}
use Rattle.sp_order.specs.Precedence.{IsBefore}
use Rattle.job_uses.specs.Sums.{add_of}

-- so many percent of a balance, rounded down
abbrev pub interest_on : ℕ → ℕ → ℕ
interest_on percent balance = balance * percent / 100

-- The first leaf adds the deposit to the counter, the second works on what the first is told, and the third adds what
-- the second finds. The first is before the third.
pub record PaysInterest (deposit : ℕ) (job : JobValue) : Type 0 where
  pub acts : job.acts ≡ add_of deposit ∷ Work 0 ∷ add_of 0 ∷ []
  pub sources : job.sources ≡ None ∷ Some 0 ∷ Some 1 ∷ []
  pub before : IsBefore job.shape 0 2
