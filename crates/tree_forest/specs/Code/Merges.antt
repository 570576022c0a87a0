-- Merges of the trees of a row.
use Rattle.std.specs.Prelude.{◌≡◌, ℕ, List, [], ◌∷◌, ◌++◌, Some, None, Bool, true, false}
use Rattle.std.specs.declared.option.Option.{Option}
use Rattle.tree23.specs.declared.trees.KeyedTree.{KeyedTree}

-- `Some`: the last entry was taken off; `None`: nothing changed
abbrev pub IsTakenOff : List KeyedTree → List KeyedTree → Option KeyedTree → Type 0
IsTakenOff old new None = new ≡ old
IsTakenOff old new (Some e) = old ≡ new ++ e ∷ []

-- `set` if a merge took place, and no keys otherwise
abbrev pub if_merged : Bool → List ℕ → List ℕ
if_merged true set = set
if_merged false set = []
