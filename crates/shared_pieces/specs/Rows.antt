-- The row of a caller's desk while a batch is served in pieces.
use Rattle.std.specs.Prelude.{ℕ, List, [], ◌∷◌, ◌+◌}

-- these inputs at the places from `place` on
abbrev pub placed_from : {In : Type 0} → ℕ → List In → List (ℕ × In)
placed_from place [] = []
placed_from place (input ∷ ins) = (place, input) ∷ placed_from (place + 1) ins
