-- What counters have left of 64 bits.
use Rattle.std.specs.Prelude.{ℕ, ◌+◌, ◌*◌, ◌≤◌, ◌^◌}
use Rattle.seq_objects.specs.Stores.{Store}

-- each counter has room for this many adds
abbrev pub HasRoom : Store → ℕ → Type 0
HasRoom store adds = (number : ℕ) → (store number).counter + adds * 2 ^ 32 ≤ 2 ^ 64

-- each counter has grown by this many adds at most
abbrev pub GrowsWithin : Store → Store → ℕ → Type 0
GrowsWithin old new adds = (number : ℕ) → (new number).counter ≤ (old number).counter + adds * 2 ^ 32
