-- Which word each token spells.
use Rattle.std.specs.Prelude.{◌≡◌, ℕ, ◌+◌, ◌-◌, ◌*◌, ◌^◌, List, [], ◌∷◌, ◌++◌, length, take, drop, map, Bool, false, ◌||◌, ◌&&◌, not, Option, Some, None, option_map, unwrap_or, if◌then◌else◌, ◌==◌, nat_le, nat_lt, codes, IsTrue}
use Rattle.std.specs.Option.{option_or}
use Rattle.std.specs.Str.{bytes_eq}
use Rattle.std.specs.List.{list_all}
use Rattle.job_names.specs.declared.name.Name.{Name}
use Rattle.job_names.specs.Names.{is_spelled, name_of}
use Rattle.seq_objects.specs.declared.kind.Kind.{Kind}
use Rattle.seq_objects.specs.Verbs.{kind_text, kind_by_text, word_by_text}
use Rattle.job_syntax.specs.Text.{Token, tokens}
use Rattle.job_syntax.specs.declared.lexer.word.Word.{Word}
use Rattle.job_syntax.specs.declared.lexer.word.Word.TheVariants.{Open, Close, Work, Object, Verb, Seq, Par, For, Pfor, Let, Equals, Number, Copies, Named, Other}
use Rattle.job_syntax.specs.declared.lexer.word.WordOnLine.{WordOnLine}

-- `0` to `9`
abbrev pub is_digit : ℕ → Bool
is_digit byte = nat_le 48 byte && nat_le byte 57

-- digits alone, at least one
abbrev pub are_digits : List ℕ → Bool
are_digits [] = false
are_digits (byte ∷ text) = list_all is_digit (byte ∷ text)

-- the value of digits that follow others of value `number`
abbrev pub digits_from : ℕ → List ℕ → ℕ
digits_from number [] = number
digits_from number (digit ∷ digits) = digits_from (10 * number + (digit - 48)) digits

-- no leading zero, except in `0` itself
abbrev pub begins_well : List ℕ → Bool
begins_well [] = false
begins_well (digit ∷ digits) = not (digit == 48) || length digits == 0

-- the value of a run of digits, if it has no leading zero and fits 32 bits
abbrev pub number_of : List ℕ → Option ℕ
number_of digits = if begins_well digits && nat_lt (digits_from 0 digits) (2 ^ 32) then Some (digits_from 0 digits) else None

-- the bytes before the first `mark`, and those after it
abbrev pub before_first : ℕ → List ℕ → List ℕ
before_first mark [] = []
before_first mark (byte ∷ text) = if byte == mark then [] else byte ∷ before_first mark text

abbrev pub behind_first : ℕ → List ℕ → List ℕ
behind_first mark [] = []
behind_first mark (byte ∷ text) = if byte == mark then text else behind_first mark text

abbrev pub pair_of : Option ℕ → Option ℕ → Option (ℕ × ℕ)
pair_of (Some factor) (Some addend) = Some (factor, addend)
pair_of _ _ = None

-- the word of a token `@*`, where `text` is the rest of it: digits, a plus sign, digits
abbrev pub copies_word : List ℕ → Word
copies_word text =
    if are_digits (before_first 43 text) && are_digits (behind_first 43 text)
    then Copies (pair_of (number_of (before_first 43 text)) (number_of (behind_first 43 text)))
    else Other

-- the word of a kind of objects, if the text was that of one, with the name of one of them
abbrev pub kind_named : Option Kind → Name → Word
kind_named (Some kind) name = Object kind (Some name)
kind_named None name = Other

abbrev pub kind_word : List ℕ → Name → Word
kind_word text name = kind_named (kind_by_text text) name

-- The word of a token with a colon: the bytes before the first `:` are a kind word, and those after it a name, which
-- may be a word of the language.
abbrev pub object_word : List ℕ → Word
object_word text =
    if is_spelled (behind_first 58 text) then kind_word (before_first 58 text) (name_of (behind_first 58 text))
    else Other

-- the word of a token that is not a quoted word
abbrev pub argument_word : List ℕ → Word
argument_word text =
    if are_digits text then Number (number_of text)
    else if bytes_eq text (codes "@") then Copies (Some (1, 0))
    else if bytes_eq (take 2 text) (codes "@*") then copies_word (drop 2 text)
    else if is_spelled text then Named (name_of text)
    else object_word text

-- the word of the language that a text is, if it is one and no word of the table of verbs
abbrev pub own_word : List ℕ → Option Word
own_word text =
    if bytes_eq text (codes "{") then Some Open
    else if bytes_eq text (codes "}") then Some Close
    else if bytes_eq text (codes "work") then Some Work
    else if bytes_eq text (codes "seq") then Some Seq
    else if bytes_eq text (codes "par") then Some Par
    else if bytes_eq text (codes "for") then Some For
    else if bytes_eq text (codes "pfor") then Some Pfor
    else if bytes_eq text (codes "let") then Some Let
    else if bytes_eq text (codes "=") then Some Equals
    else None

-- the word of a kind or of a verb that a text is, if it is one
abbrev pub table_word : List ℕ → Option Word
table_word text =
    option_or (option_map (λ kind. Object kind None) (kind_by_text text)) (option_map (λ verb. Verb verb) (word_by_text text))

-- the quoted word that a text is, if it is one
abbrev pub quoted_word : List ℕ → Option Word
quoted_word text = option_or (own_word text) (table_word text)

abbrev pub word_of : List ℕ → Word
word_of text = unwrap_or (quoted_word text) (argument_word text)

-- the words of a text's tokens, each with its line
abbrev pub word_on_line : Token → WordOnLine
word_on_line token = record { word = word_of token.text; line = token.line }

abbrev pub words_on_lines : List ℕ → List WordOnLine
words_on_lines text = map word_on_line (tokens text)

-- The tokens of this kind's word, a colon and a name say the kind with this name, and no others do.
pub record IsKindWord (kind : Kind) : Type 0 where
  pub said : (name : List ℕ) → IsTrue (is_spelled name) → word_of (kind_text kind ++ 58 ∷ name) ≡ Object kind (Some (name_of name))
  pub alone : (text : List ℕ) (name : Name) → word_of text ≡ Object kind (Some name)
      → (spelled : List ℕ) × (text ≡ kind_text kind ++ 58 ∷ spelled) × IsTrue (is_spelled spelled) × (name ≡ name_of spelled)
