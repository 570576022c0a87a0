-- Keys that are read one by one.
use Rattle.std.proofs.Common.{ℕ, List, ◌++◌, Option, Some, None}

-- keys followed by more keys, where there are more
abbrev pub behind : List ℕ → Option (List ℕ) → Option (List ℕ)
behind keys None = None
behind keys (Some more) = Some (keys ++ more)
