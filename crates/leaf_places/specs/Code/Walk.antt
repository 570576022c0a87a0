-- The places of leaves outside the loops around their items, and in a copy of one more loop.
use Rattle.std.specs.Prelude.{ℕ, List, [], ◌∷◌, map}
use Rattle.job_syntax.specs.Grammar.{Items}
use Rattle.job_lang.specs.Places.{placed_in}
use Rattle.leaf_places.specs.Places.{Place, place_on}

-- the place of a leaf outside every loop
abbrev pub outside : ℕ → Place
outside line = record { line = line; copies = [] }

-- the same place in this copy of one more loop
abbrev pub in_copy : ℕ → Place → Place
in_copy copy place = record { line = place.line; copies = copy ∷ place.copies }

-- the places of the leaves of items that stand behind so many tokens, outside the loops around the items
abbrev pub places_from : List ℕ → ℕ → Items → List Place
places_from lines before items = map (place_on lines) (placed_in before [] items)
