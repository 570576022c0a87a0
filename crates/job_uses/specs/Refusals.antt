-- Why a program builds no job: the job would have more leaves than a job may have, or memory ran out.
use Rattle.std.specs.Prelude.{ℕ, ◌<◌, ⊤}
use Rattle.limits.specs.declared.TheConstants.{MOST_LEAVES}
use Rattle.job_builder.specs.declared.error.BuildError.{BuildError}
use Rattle.job_builder.specs.declared.error.BuildError.TheVariants.{Full, Nesting, NoBlock, Unclosed, NotVisible, Memory}

-- a job of so many leaves is not built
abbrev pub IsNotBuilt : ℕ → BuildError → Type 0
IsNotBuilt leaves Full = MOST_LEAVES < leaves
IsNotBuilt leaves Nesting = ⊥
IsNotBuilt leaves NoBlock = ⊥
IsNotBuilt leaves Unclosed = ⊥
IsNotBuilt leaves NotVisible = ⊥
IsNotBuilt leaves Memory = ⊤
