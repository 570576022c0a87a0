-- Which words spell a call of the program.
use Rattle.std.specs.Prelude.{ℕ, List, [], ◌∷◌, Option, Some, None, if◌then◌else◌, codes}
use Rattle.std.specs.Option.{option_map}
use Rattle.std.specs.Str.{bytes_eq}
use Rattle.decimals.specs.Words.{number_between}
use Rattle.batched_map.specs.declared.call.MapOp.{MapOp}
use Rattle.batched_map.specs.declared.call.MapOp.TheVariants.{Put, Del, Get, Rank, Nth}

-- the number that a word spells, if it is below 2^32
abbrev pub number_in : List ℕ → Option ℕ
number_in word = number_between 0 4294967295 word

-- the put of a key and its value, where both are numbers
abbrev pub put_of : Option ℕ → Option ℕ → Option MapOp
put_of (Some key) (Some val) = Some (Put key val)
put_of (Some key) None = None
put_of None val = None

-- the call that words spell: `put K V` gives the key K the value V, `del K` removes it, `get K` asks for its value,
-- `rank K` how many keys are less than K, and `nth I` for the key that has exactly I keys below it
abbrev pub map_call : List (List ℕ) → Option MapOp
map_call (word ∷ number ∷ []) =
    if bytes_eq word (codes "del") then option_map (λ key. Del key) (number_in number)
    else if bytes_eq word (codes "get") then option_map (λ key. Get key) (number_in number)
    else if bytes_eq word (codes "rank") then option_map (λ key. Rank key) (number_in number)
    else if bytes_eq word (codes "nth") then option_map (λ index. Nth index) (number_in number)
    else None
map_call (word ∷ key ∷ val ∷ []) =
    if bytes_eq word (codes "put") then put_of (number_in key) (number_in val) else None
map_call _ = None
