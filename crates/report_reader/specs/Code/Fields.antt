-- Words, and numbers behind words.
use Rattle.std.specs.Prelude.{◌≡◌, ℕ, List, ◌++◌}
use Rattle.std.specs.Char.{is_ascii_lowercase}
use Rattle.decimals.specs.Runs.{BeginsOutside}
use Rattle.decimals.specs.Texts.{IsDecimalThen}

-- the text is this word, and then the rest, which does not begin with a letter
pub record IsLettersThen (word : List ℕ) (text : List ℕ) (rest : List ℕ) : Type 0 where
  pub written : word ++ rest ≡ text
  pub ends : BeginsOutside is_ascii_lowercase rest

-- The text is these words, then the number in decimal, which is at most `most`, and then the rest.
pub record IsFieldThen (words : List ℕ) (most : ℕ) (text : List ℕ) (number : ℕ) (rest : List ℕ) : Type 0 where
  pub behind : List ℕ
  pub starts : words ++ behind ≡ text
  pub read : IsDecimalThen most behind number rest
