-- How many of the lists are not empty.
use Rattle.core_model.specs.Measure.{total}
use Rattle.ready_lists.specs.Places.{at}
use Rattle.std.specs.Prelude.{List, [], length, ℕ, ◌∷◌}

-- 1 for a non-empty list, 0 for the empty one
abbrev pub one_if_non_empty : List ℕ → ℕ
one_if_non_empty [] = 0
one_if_non_empty (x ∷ xs) = 1

-- the number of lists that are not empty
abbrev pub non_empty_in : List (List ℕ) → ℕ
non_empty_in xs = total (λ w. one_if_non_empty (at xs [] w)) (length xs)
