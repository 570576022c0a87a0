-- The places of each name's lets.
use Rattle.std.specs.Prelude.{ℕ, suc, List, [], ◌∷◌, ◌++◌, if◌then◌else◌}
use Rattle.std.specs.Option.{option_map_or}
use Rattle.indexmap.specs.IndexMap.{get}
use Rattle.job_names.specs.declared.name.Name.{Name}
use Rattle.job_names.specs.declared.places.Places.{Places}
use Rattle.job_names.specs.declared.scopes.Let.{Let}
use Rattle.job_names.specs.Names.{same_name}

-- the places of the lets that have a name, where the first of the list has the place `first`
abbrev pub places_from : Name → ℕ → List Let → List ℕ
places_from name first [] = []
places_from name first (bound ∷ lets) = (if same_name bound.name name then first ∷ [] else []) ++ places_from name (suc first) lets

-- the places kept for a name, none for one that has had no let
abbrev pub list_of : Places → Name → List ℕ
list_of places name = option_map_or (λ list. list.items) (get same_name places.lists name) []
