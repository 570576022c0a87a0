-- How far the counters of a test are.
use Rattle.std.specs.Prelude.{ℕ, ◌≤◌}
use Rattle.seq_objects.specs.Stores.{Store}

-- no counter is above a number
abbrev pub AreAtMost : ℕ → Store → Type 0
AreAtMost most store = (number : ℕ) → (store number).counter ≤ most
