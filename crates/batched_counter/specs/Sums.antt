-- Sums of lists of numbers.
use Rattle.std.specs.Prelude.{ℕ, ◌+◌, List, [], ◌∷◌}

-- the sum of the list
abbrev pub total : List ℕ → ℕ
total [] = 0
total (x ∷ xs) = x + total xs

-- for each number, n plus the sum of the numbers up to and including it
abbrev pub sums_from : ℕ → List ℕ → List ℕ
sums_from n [] = []
sums_from n (x ∷ xs) = (n + x) ∷ sums_from (n + x) xs
