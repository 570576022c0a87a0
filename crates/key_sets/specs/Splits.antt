-- A list of keys cut at a key.
use Rattle.std.specs.Prelude.{◌≡◌, ℕ, ◌<◌, ◌≤◌, not, nat_lt, List, ◌++◌, filter}
use Rattle.std.specs.List.{AllByRecursion}

-- `whole` is `low`, whose keys are below `key`, followed by `high`, whose keys are not
pub record IsSplit (key : ℕ) (whole low high : List ℕ) : Type 0 where
  pub is : whole ≡ low ++ high
  pub below : AllByRecursion (λ k. k < key) low
  pub above : AllByRecursion (λ k. key ≤ k) high

-- the keys below a key
abbrev pub below : ℕ → List ℕ → List ℕ
below key set = filter (λ k. nat_lt k key) set

-- the keys that are not below a key
abbrev pub from : ℕ → List ℕ → List ℕ
from key set = filter (λ k. not (nat_lt k key)) set
