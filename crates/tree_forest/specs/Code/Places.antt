-- The place of a key in a row of trees.
use Rattle.std.specs.Prelude.{ℕ, ◌<◌, ◌≤◌, List, [], ◌∷◌, take, drop, length, Some, None, ⊤}
use Rattle.std.specs.declared.option.Option.{Option}
use Rattle.std.specs.List.{AllByRecursion}
use Rattle.tree23.specs.declared.trees.KeyedTree.{KeyedTree}

-- `key` is below the key of the first entry, if there is one
abbrev pub IsBelowFirst : ℕ → List KeyedTree → Type 0
IsBelowFirst key [] = ⊤
IsBelowFirst key (e ∷ entries) = key < e.key

-- the keys of the first `at` entries are not above `key`, and that of the next entry, if there is one, is
pub record IsPlace (key : ℕ) (entries : List KeyedTree) (at : ℕ) : Type 0 where
  pub within : at ≤ length entries
  pub not_above : AllByRecursion (λ e. e.key ≤ key) (take at entries)
  pub below : IsBelowFirst key (drop at entries)

-- the answer, or else the key of the first entry, if there is one
abbrev pub or_first_key : Option ℕ → List KeyedTree → Option ℕ
or_first_key (Some key) entries = Some key
or_first_key None [] = None
or_first_key None (e ∷ entries) = Some e.key
