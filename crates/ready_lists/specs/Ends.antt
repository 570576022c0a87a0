-- Where in its list a claimed number stands.
use Rattle.core_model.specs.Lists.{times}
use Rattle.std.specs.Prelude.{List, get_or, length, ℕ, ◌-◌, ◌<◌, ◌≡◌, ◌≢◌, ◌≤◌, ◌⊎◌}

-- the list is not empty and starts with the number
abbrev pub IsOldest : ℕ → List ℕ → Type 0
IsOldest n xs = (0 < length xs) × (get_or xs 0 n ≡ n)

-- the list is not empty and ends with the number
abbrev pub IsNewest : ℕ → List ℕ → Type 0
IsNewest n xs = (0 < length xs) × (get_or xs (length xs - 1) n ≡ n)

-- the number occurs at most once in the list; if it occurs, it is the first or the last
pub record IsAtEnd (n : ℕ) (xs : List ℕ) : Type 0 where
  pub once : times n xs ≤ 1
  pub end : times n xs ≢ 0 → IsOldest n xs ⊎ IsNewest n xs

-- at most one list contains the number, there at most once, and at an end
pub record IsAtOneEnd (n : ℕ) (lists : ℕ → List ℕ) : Type 0 where
  pub at_ends : (v : ℕ) → IsAtEnd n (lists v)
  pub alone : (u v : ℕ) → u ≢ v → times n (lists u) ≢ 0 → times n (lists v) ≡ 0
