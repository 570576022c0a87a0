-- The command line: the file of a job, which may be standard input, and before it `--text` where the canonical text is
-- asked for.
use Rattle.std.specs.Prelude.{ℕ, Bool, ◌||◌, IsTrue, if◌then◌else◌, nat_eq, List, [], ◌∷◌, map, Option, None, Some, string_bytes, codes}
use Rattle.std.specs.List.{starts_with}
use Rattle.std.specs.Str.{bytes_eq}
use Rattle.std.specs.declared.string.String.{String}
use Rattle.std.specs.declared.alloc.Global.{Global}
use Rattle.jobview.specs.declared.words.Form.{Form}
use Rattle.jobview.specs.declared.words.Form.TheVariants.{Rows, Text}

-- the file of a job, and what is to be shown of the job
pub record Asked : Type 0 where
  pub file : List ℕ
  pub form : Form

-- what is asked of the file that a word names, if the word is not empty and does not begin with `--`; `-` names
-- standard input
abbrev pub named_file : Form → List ℕ → Option Asked
named_file form file =
    if bytes_eq file [] || starts_with nat_eq file (codes "--") then None
    else Some (record { file = file; form = form })

-- what the words ask for, if they are a file, or `--text` and a file
abbrev pub asked_by : List (List ℕ) → Option Asked
asked_by (file ∷ []) = named_file Rows file
asked_by (option ∷ file ∷ []) = if bytes_eq option (codes "--text") then named_file Text file else None
asked_by _ = None

-- the bytes of words
abbrev pub spelled : List (String Global) → List (List ℕ)
spelled words = map string_bytes words

-- the shelf may be asked for the file, if there is one
abbrev pub MayRead : (List ℕ → Bool) → Option Asked → Type 0
MayRead may None = Unit {0}
MayRead may (Some asked) = IsTrue (may asked.file)
