-- The command line: two files, a job's and a report's, of which one may be standard input.
use Rattle.std.specs.Prelude.{ℕ, Bool, ◌&&◌, ◌||◌, IsTrue, if◌then◌else◌, List, [], ◌∷◌, map, Option, None, Some, string_bytes, codes}
use Rattle.std.specs.Str.{bytes_eq}
use Rattle.std.specs.declared.string.String.{String}
use Rattle.std.specs.declared.alloc.Global.{Global}

-- the names of the two files
pub record Files : Type 0 where
  pub job : List ℕ
  pub report : List ℕ

-- the files that two words name: neither word is empty, and not both are `-`, which names standard input
abbrev pub two_files : List ℕ → List ℕ → Option Files
two_files job report =
    if bytes_eq job [] || bytes_eq report [] || (bytes_eq job (codes "-") && bytes_eq report (codes "-")) then None
    else Some (record { job = job; report = report })

-- the files that the words name, if there are two words
abbrev pub files_of : List (List ℕ) → Option Files
files_of (job ∷ report ∷ []) = two_files job report
files_of _ = None

-- the bytes of words
abbrev pub spelled : List (String Global) → List (List ℕ)
spelled words = map string_bytes words

-- the shelf may be asked for both files, if there are any
abbrev pub MayRead : (List ℕ → Bool) → Option Files → Type 0
MayRead may None = Unit {0}
MayRead may (Some files) = IsTrue (may files.job) × IsTrue (may files.report)
