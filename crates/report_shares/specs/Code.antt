-- What only the code and its proofs cite.
use Rattle.std.specs.Prelude.{ℕ, ◌==◌, Bool, List}
use Rattle.std.specs.List.{list_any}
use Rattle.batch_history.specs.declared.batch.Entry.{Entry}

-- whether one of the entries is of this leaf
abbrev pub is_among : ℕ → List Entry → Bool
is_among leaf entries = list_any (λ entry. entry.leaf == leaf) entries
