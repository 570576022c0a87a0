-- What a worker of a core is doing, to the detail that the code which drives workers needs.
use Rattle.batcher_core.specs.Cores.{CoreView, job_in, state_in}
use Rattle.core_state.specs.Doings.{doing_of}
use Rattle.core_state.specs.declared.doing.Doing.{Doing}
use Rattle.core_state.specs.declared.doing.Doing.TheVariants as doings
use Rattle.std.specs.Prelude.{if◌then◌else◌, ℕ}

-- what worker `w` is doing, `Other` in a spent core
abbrev pub doing_in : CoreView → ℕ → Doing
doing_in c w = if c.spent then doings.Other else doing_of (job_in c) (state_in c).state w
