-- The command line of a program over scripts: one word, the file.
use Rattle.std.specs.Prelude.{ℕ, Bool, IsTrue, if◌then◌else◌, List, [], ◌∷◌, map, Option, None, Some, string_bytes}
use Rattle.std.specs.declared.string.String.{String}
use Rattle.std.specs.declared.alloc.Global.{Global}
use Rattle.batch_script.specs.Scripts.{is_some_of}

-- the bytes of words
abbrev pub spelled : List (String Global) → List (List ℕ)
spelled words = map string_bytes words

-- the file that the words name: they are one word, which is not empty
abbrev pub file_of : List (List ℕ) → Option (List ℕ)
file_of (file ∷ []) = if is_some_of file then Some file else None
file_of _ = None

-- the shelf may be asked for the file, if there is one
abbrev pub MayRead : (List ℕ → Bool) → Option (List ℕ) → Type 0
MayRead may None = Unit {0}
MayRead may (Some file) = IsTrue (may file)
