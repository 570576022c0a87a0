-- Names, as tokens spell them.
use Rattle.std.specs.Prelude.{◌≡◌, ℕ, ◌-◌, List, [], ◌∷◌, ◌++◌, length, replicate, take, Bool, true, false, ◌||◌, ◌&&◌, ◌==◌, nat_le, nat_lt, bytes_eq}
use Rattle.std.specs.List.{AllByRecursion, list_all}
use Rattle.limits.specs.declared.TheConstants.{MOST_NAME_BYTES}
use Rattle.job_names.specs.declared.name.Name.{Name}

-- `a` to `z`
abbrev pub is_letter : ℕ → Bool
is_letter byte = nat_le 97 byte && nat_le byte 122

-- a letter, `0` to `9`, or `_`
abbrev pub is_in_name : ℕ → Bool
is_in_name byte = is_letter byte || (nat_le 48 byte && nat_le byte 57) || byte == 95

-- a letter, and fewer than `MOST_NAME_BYTES` bytes behind it that may stand in a name
abbrev pub is_spelled : List ℕ → Bool
is_spelled [] = false
is_spelled (byte ∷ text) = is_letter byte && (nat_lt (length text) MOST_NAME_BYTES && list_all (λ byte. is_in_name byte) text)

-- each of the texts is spelled as a name
abbrev pub AreSpelled : List (List ℕ) → Type 0
AreSpelled texts = AllByRecursion (λ text. is_spelled text ≡ true) texts

-- the text of a name: its own bytes, without the zeros behind them
abbrev pub spelling : Name → List ℕ
spelling name = take name.len name.bytes

-- the name of a text of at most `MOST_NAME_BYTES` bytes: these bytes, and zeros behind them
abbrev pub name_of : List ℕ → Name
name_of text = record { bytes = text ++ replicate (MOST_NAME_BYTES - length text) 0; len = length text }

-- whether two names are the same
abbrev pub same_name : Name → Name → Bool
same_name left right = bytes_eq left.bytes right.bytes && left.len == right.len
