-- The last members of rows.
use Rattle.std.specs.Prelude.{ℕ, zero, suc, ◌-◌, List, [], ◌∷◌, ◌++◌, length, take, drop}

-- the last member, if there is one, and the others
abbrev pub last_of : {X : Type 0} → List X → List X
last_of xs = drop (length xs - 1) xs

abbrev pub front_of : {X : Type 0} → List X → List X
front_of xs = take (length xs - 1) xs

-- those of the first `count` rows
abbrev pub lasts : {X : Type 0} → ℕ → List (List X) → List X
lasts zero rows = []
lasts (suc count) [] = []
lasts (suc count) (row ∷ rows) = last_of row ++ lasts count rows

-- the rows without them
abbrev pub fronts : {X : Type 0} → ℕ → List (List X) → List (List X)
fronts zero rows = rows
fronts (suc count) [] = []
fronts (suc count) (row ∷ rows) = front_of row ∷ fronts count rows

-- the last member of the row at the place, if there is one, and the rows without it
abbrev pub last_at : {X : Type 0} → ℕ → List (List X) → List X
last_at place [] = []
last_at zero (row ∷ rows) = last_of row
last_at (suc place) (row ∷ rows) = last_at place rows

abbrev pub without_last : {X : Type 0} → ℕ → List (List X) → List (List X)
without_last place [] = []
without_last zero (row ∷ rows) = front_of row ∷ rows
without_last (suc place) (row ∷ rows) = row ∷ without_last place rows
