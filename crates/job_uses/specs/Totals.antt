-- The job whose leaves of work add up chunks, and whose calls add what they find to a counter.
use Rattle.std.specs.Prelude.{◌≡◌, ℕ, ◌*◌, ◌<◌, [], ◌∷◌, ◌++◌, None, Some, map}
use Rattle.std.specs.List.{range_with_len}
use Rattle.seq_objects.specs.declared.act.Act.TheVariants.{Work}
use Rattle.sp_order.specs.Jobs.{JobValue}
use Rattle.sp_order.specs.Precedence.{IsBefore}
use Rattle.job_uses.specs.Sums.{add_of}

-- Each leaf of work works with its own number. Then comes a call for each of them, in order, which adds its value; and
-- the last leaf, which is behind all others, adds 0.
pub record AddsChunks (chunks : ℕ) (job : JobValue) (last : ℕ) : Type 0 where
  pub acts : job.acts
      ≡ map Work (range_with_len 0 chunks) ++ map (λ _. add_of 0) (range_with_len 0 chunks) ++ add_of 0 ∷ []
  pub sources : job.sources
      ≡ map (λ _. None) (range_with_len 0 chunks) ++ map Some (range_with_len 0 chunks) ++ None ∷ []
  pub last_is : last ≡ 2 * chunks
  pub behind : (u : ℕ) → u < last → IsBefore job.shape u last
