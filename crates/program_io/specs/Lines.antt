-- The text of a diagnostic line, and what err took of it.
use Rattle.std.specs.Prelude.{ℕ, List, [], ◌++◌, Option, None, Some, codes, ◌⊎◌}
use Rattle.std.specs.Fmt.{decimal}
use Rattle.std.specs.Io.KnownBytes.{Appends}
use Rattle.bt_io.specs.Bytes.{AppendsFront}
use Rattle.program_io.specs.declared.line.Line.{Line}

-- `line N: ` for a line number, and nothing without one
abbrev pub place_words : Option ℕ → List ℕ
place_words None = []
place_words (Some number) = codes "line " ++ decimal number ++ codes ": "

-- the program's name, the number of the input line if there is one, the message, and a line feed
abbrev pub said : List ℕ → Option ℕ → List ℕ → List ℕ
said program number words = program ++ (codes ": " ++ (place_words number ++ (words ++ codes "\n")))

abbrev pub line_text : Line → List ℕ
line_text line = said line.program.now line.number line.words.now

-- the text of the diagnostic; empty if there is none
abbrev pub told_text : Option Line → List ℕ
told_text None = []
told_text (Some line) = line_text line

-- err took the whole line, or a front of it and a write failed
abbrev pub Tells : List ℕ → Option (List ℕ) → Option (List ℕ) → Type 0 → Type 0
Tells line old new WritesFailed = Appends old new line ⊎ (AppendsFront old new line × WritesFailed)
