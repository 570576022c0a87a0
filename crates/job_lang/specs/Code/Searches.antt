-- How the arguments that depend on the copy are scanned.
use Rattle.std.specs.Prelude.{◌≡◌, ℕ, List, ◌++◌, filter, Bool, Option, Some, None}
use Rattle.job_syntax.specs.declared.lexer.word.WordOnLine.{WordOnLine}
use Rattle.job_lang.specs.Limits.{depends_on_copy, first_line}

-- the words that depend on the copy
abbrev pub dependents : List WordOnLine → List WordOnLine
dependents words = filter (λ token. depends_on_copy token.word) words

-- the line found first, or else the one found after it
abbrev pub found_or : Option ℕ → Option ℕ → Option ℕ
found_or (Some line) behind = Some line
found_or None behind = behind

-- A scan of arguments with these flags, from the front of `words`, finds the line `found`; or it finds none, and a scan
-- of the arguments after them continues at the front of `rest`.
abbrev pub Finds : List Bool → List WordOnLine → Option ℕ → List WordOnLine → Type 0
Finds flags words found rest =
    (behind : List Bool) → first_line (flags ++ behind) (dependents words) ≡ found_or found (first_line behind (dependents rest))
