-- The words of a text, and how often a word is among them. A text and a word are lists of bytes.
use Rattle.std.specs.Prelude.{ℕ, Bool, ◌||◌, ◌==◌, if◌then◌else◌, List, [], ◌∷◌, ◌++◌, count_by}
use Rattle.std.specs.Str.{bytes_eq}
use Rattle.std.specs.Int.{is_in_range}

-- a space, or a tab, a line feed, a vertical tab, a form feed or a carriage return
abbrev pub is_white_space : ℕ → Bool
is_white_space byte = (byte == 32) || is_in_range 9 13 byte

-- the word that ends here, where the bytes `run` stand behind the last white space
abbrev pub ended : List ℕ → List (List ℕ)
ended [] = []
ended run = run ∷ []

-- the words of a text behind these bytes, which have no white space
abbrev pub words_behind : List ℕ → List ℕ → List (List ℕ)
words_behind run [] = ended run
words_behind run (byte ∷ text) = if is_white_space byte then ended run ++ words_behind [] text else words_behind (run ++ byte ∷ []) text

-- the words of a text, one after another: the runs of bytes other than white space, each as long as it goes
abbrev pub words_of : List ℕ → List (List ℕ)
words_of text = words_behind [] text

-- how often a word is among these
abbrev pub occurrences : List ℕ → List (List ℕ) → ℕ
occurrences word words = count_by (bytes_eq word) words
