-- The job that adds numbers to a counter, and then asks it.
use Rattle.std.specs.Prelude.{◌≡◌, ℕ, ◌<◌, List, [], ◌∷◌, ◌++◌, length, map, sum}
use Rattle.seq_objects.specs.declared.act.Act.{Act}
use Rattle.seq_objects.specs.declared.act.Act.TheVariants.{Call}
use Rattle.seq_objects.specs.declared.op.Op.TheVariants.{CounterAdd}
use Rattle.sp_order.specs.Jobs.{JobValue}
use Rattle.sp_order.specs.Phases.{HasNoSources}
use Rattle.sp_order.specs.Precedence.{IsBefore}

-- the act that adds a number
abbrev pub add_of : ℕ → Act
add_of number = Call (CounterAdd 0 number)

-- The leaves add numbers that come to this total, and the last leaf, which is behind all others, adds 0.
pub record IsSumJob (total : ℕ) (job : JobValue) (last : ℕ) : Type 0 where
  pub numbers : List ℕ
  pub acts : job.acts ≡ map add_of numbers ++ add_of 0 ∷ []
  pub plain : HasNoSources job
  pub last_is : last ≡ length numbers
  pub behind : (u : ℕ) → u < last → IsBefore job.shape u last
  pub comes_to : sum numbers ≡ total
