-- Maps as lists of entries whose keys strictly ascend, and the operations on them.
use Rattle.std.specs.Prelude.{ℕ, ◌<◌, ◌==◌, nat_lt, if◌then◌else◌, List, [], ◌∷◌, length, filter, Some, None, slice_get}
use Rattle.std.specs.declared.option.Option.{Option}
use Rattle.std.specs.List.{AllByRecursion}
use Rattle.std.specs.Option.{option_map}
use Rattle.keyed_pieces.specs.Keyed.{AscendsBy}
use Rattle.rank_nodes.specs.declared.entry.Entry.{Entry}

abbrev pub key_of : Entry → ℕ
key_of entry = entry.key

-- the keys strictly ascend: each is below all later ones
abbrev pub Ascends : List Entry → Type 0
Ascends entries = AscendsBy key_of entries

-- the value of the key, if present
abbrev pub value_at : ℕ → List Entry → Option ℕ
value_at key [] = None
value_at key (e ∷ entries) = if key == e.key then Some e.val else value_at key entries

-- the map with the entry, which is inserted at its place or replaces the one with its key
abbrev pub with_entry : ℕ → ℕ → List Entry → List Entry
with_entry key val [] = record { key = key; val = val } ∷ []
with_entry key val (e ∷ entries) =
    if nat_lt key e.key then record { key = key; val = val } ∷ e ∷ entries
    else (if key == e.key then record { key = key; val = val } ∷ entries else e ∷ with_entry key val entries)

-- the map without the key
abbrev pub without_entry : ℕ → List Entry → List Entry
without_entry key [] = []
without_entry key (e ∷ entries) = if key == e.key then entries else e ∷ without_entry key entries

-- the number of keys below `key`
abbrev pub rank_of : ℕ → List Entry → ℕ
rank_of key entries = length (filter (λ e. nat_lt e.key key) entries)

-- the key at index `i`, from 0, if there is one: where keys ascend, the one with exactly `i` keys below it
abbrev pub key_at : ℕ → List Entry → Option ℕ
key_at i entries = option_map key_of (slice_get entries i)

-- each key of `low` is below each key of `high`
abbrev pub AllBelow : List Entry → List Entry → Type 0
AllBelow low high = AllByRecursion (λ e. AllByRecursion (λ f. e.key < f.key) high) low
