-- The number whose decimal stands at the front of a text.
use Rattle.std.specs.Prelude.{◌≡◌, ℕ, ◌≤◌, List, ◌++◌}
use Rattle.std.specs.Char.{is_ascii_digit}
use Rattle.std.specs.Fmt.{decimal}
use Rattle.decimals.specs.Runs.{BeginsOutside}

-- the text is empty or begins with a byte that is no ASCII digit
abbrev pub BeginsNoDigit : List ℕ → Type 0
BeginsNoDigit text = BeginsOutside is_ascii_digit text

-- The text is the decimal of `number`, which is at most `most`, followed by `rest`, which does not begin with a digit.
pub record IsDecimalThen (most : ℕ) (text : List ℕ) (number : ℕ) (rest : List ℕ) : Type 0 where
  pub written : decimal number ++ rest ≡ text
  pub ends : BeginsNoDigit rest
  pub within : number ≤ most
