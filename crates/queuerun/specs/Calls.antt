-- Which words spell a call of the program.
use Rattle.std.specs.Prelude.{ℕ, List, [], ◌∷◌, Option, Some, None, if◌then◌else◌, codes}
use Rattle.std.specs.Option.{option_map}
use Rattle.std.specs.Str.{bytes_eq}
use Rattle.decimals.specs.Words.{number_between}

-- the call that words spell: `put N` is a put of the number N, which is below 2^32, and `get` is a get
abbrev pub queue_call : List (List ℕ) → Option (Option ℕ)
queue_call (word ∷ []) = if bytes_eq word (codes "get") then Some None else None
queue_call (word ∷ number ∷ []) =
    if bytes_eq word (codes "put") then option_map (λ item. Some item) (number_between 0 4294967295 number) else None
queue_call _ = None
