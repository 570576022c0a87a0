-- A member put into a row.
use Rattle.std.specs.Prelude.{ℕ, zero, suc, List, [], ◌∷◌, ◌++◌}
use Rattle.object_rows.specs.Rows.{added}

-- the member at the end of the row at the place; a row of its own right behind the last one
abbrev pub with_member : {X : Type 0} → ℕ → X → List (List X) → List (List X)
with_member zero x [] = (x ∷ []) ∷ []
with_member zero x (row ∷ rows) = (row ++ x ∷ []) ∷ rows
with_member (suc place) x [] = []
with_member (suc place) x (row ∷ rows) = row ∷ with_member place x rows

-- the list added to the rows from the place on
abbrev pub added_from : {X : Type 0} → ℕ → List (List X) → List X → List (List X)
added_from zero rows xs = added rows xs
added_from (suc place) [] xs = added [] xs
added_from (suc place) (row ∷ rows) xs = row ∷ added_from place rows xs
