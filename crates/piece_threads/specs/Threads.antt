-- How many threads the pieces of a batch are run in.
use Rattle.std.specs.Prelude.{ℕ, ◌+◌, ◌/◌, min}

-- one, and one more for each full 2,048 keys, at most 16
abbrev pub threads_for : ℕ → ℕ
threads_for keys = min 16 (1 + keys / 2048)
