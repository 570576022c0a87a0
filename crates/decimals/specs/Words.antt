-- The number whose decimal is a given word.
use Rattle.std.specs.Prelude.{ℕ, List, Bool, ◌&&◌, nat_le, if◌then◌else◌, Option, None, Some}
use Rattle.std.specs.Fmt.{decimal}
use Rattle.std.specs.Str.{bytes_eq}
use Rattle.std.specs.Str.Parse.{digits_value}

-- the word is the decimal of the value of its digits, and this value is from `least` to `most`
abbrev pub is_number_between : ℕ → ℕ → List ℕ → Bool
is_number_between least most word =
    bytes_eq word (decimal (digits_value 10 word)) && nat_le least (digits_value 10 word) && nat_le (digits_value 10 word) most

-- the number from `least` to `most` whose decimal is the word, if there is one
abbrev pub number_between : ℕ → ℕ → List ℕ → Option ℕ
number_between least most word = if is_number_between least most word then Some (digits_value 10 word) else None
