-- When a call may report that a shelf or a sink failed.
use Rattle.std.specs.Prelude.{ℕ, ◌+◌, ◌-◌, ◌^◌, ◌≤◌, min, Result, OnErr}

-- one more, saturating at the largest `u64`
abbrev pub saturating_succ : ℕ → ℕ
saturating_succ count = min (count + 1) (2 ^ 64 - 1)

-- the count rose by at least one, or is saturated at the largest `u64`
abbrev pub Rose : ℕ → ℕ → Type 0
Rose before now = saturating_succ before ≤ now

-- the fault count did not fall, and it rose (or is saturated) if the call failed
pub record HasCause {T E : Type 0} (before now : ℕ) (result : Result T E) : Type 0 where
  pub later : before ≤ now
  pub failed : OnErr result (Rose before now)
