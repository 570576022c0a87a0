-- Lists as total functions of an index.
use Rattle.std.specs.Prelude.{List, get_or, ℕ}

-- item `n` of the list, or the default `d` beyond its end
abbrev pub at : {A : Type 0} → List A → A → ℕ → A
at xs d n = get_or xs n d
