-- Which words spell a call of the program.
use Rattle.std.specs.Prelude.{ℕ, List, [], ◌∷◌, Option, Some, None, if◌then◌else◌, ◌&&◌, nat_le, length, codes}
use Rattle.std.specs.Str.{bytes_eq}
use Rattle.decimals.specs.Words.{number_between}
use Rattle.bulk_calls.specs.declared.op.BulkKind.{BulkKind}
use Rattle.bulk_calls.specs.declared.op.BulkKind.TheVariants.{Insert, Remove, Find}
use Rattle.bulk_calls.specs.Views.{BulkView}
use Rattle.limits.specs.declared.TheConstants.{MOST_BULK_KEYS}

-- the kind of call that a word names
abbrev pub kind_named : List ℕ → Option BulkKind
kind_named word =
    if bytes_eq word (codes "insert") then Some Insert
    else (if bytes_eq word (codes "remove") then Some Remove
    else (if bytes_eq word (codes "find") then Some Find else None))

-- a key in front of others, where the words of all are numbers
abbrev pub with_first : Option ℕ → Option (List ℕ) → Option (List ℕ)
with_first None keys = None
with_first (Some key) None = None
with_first (Some key) (Some keys) = Some (key ∷ keys)

-- the keys that words spell, where each is a number below 2^32
abbrev pub keys_named : List (List ℕ) → Option (List ℕ)
keys_named [] = Some []
keys_named (word ∷ words) = with_first (number_between 0 4294967295 word) (keys_named words)

-- a call, where its kind and its keys are both there
abbrev pub call_with : Option BulkKind → Option (List ℕ) → Option BulkView
call_with None keys = None
call_with (Some what) None = None
call_with (Some what) (Some keys) = Some (record { kind = what; keys = keys })

-- the call that words spell: `insert`, `remove` or `find`, with 1 to `MOST_BULK_KEYS` keys
abbrev pub bulk_call : List (List ℕ) → Option BulkView
bulk_call [] = None
bulk_call (word ∷ words) =
    if nat_le 1 (length words) && nat_le (length words) MOST_BULK_KEYS then call_with (kind_named word) (keys_named words)
    else None
