-- The command line: two words, the file whose words are counted, which may be standard input, and the number of threads.
use Rattle.std.specs.Prelude.{ℕ, Bool, ◌||◌, IsTrue, if◌then◌else◌, nat_eq, List, [], ◌∷◌, map, Option, None, Some, string_bytes, codes}
use Rattle.std.specs.List.{starts_with}
use Rattle.std.specs.Str.{bytes_eq}
use Rattle.std.specs.declared.string.String.{String}
use Rattle.std.specs.declared.alloc.Global.{Global}
use Rattle.limits.specs.declared.TheConstants.{MOST_WORKERS}
use Rattle.decimals.specs.Words.{is_number_between}

-- the file that a word names, if the word is not empty and does not begin with `--`; `-` names standard input
abbrev pub named_file : List ℕ → Option (List ℕ)
named_file file = if bytes_eq file [] || starts_with nat_eq file (codes "--") then None else Some file

-- the file that the words name, if there are two words, and the second is a decimal from 1 to `MOST_WORKERS`
abbrev pub file_of : List (List ℕ) → Option (List ℕ)
file_of (file ∷ threads ∷ []) = if is_number_between 1 MOST_WORKERS threads then named_file file else None
file_of _ = None

-- the bytes of words
abbrev pub spelled : List (String Global) → List (List ℕ)
spelled words = map string_bytes words

-- the shelf may be asked for the file, if there is one
abbrev pub MayRead : (List ℕ → Bool) → Option (List ℕ) → Type 0
MayRead may None = Unit {0}
MayRead may (Some file) = IsTrue (may file)
