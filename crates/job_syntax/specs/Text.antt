-- The bytes of a job's text: comments, lines, and tokens.
use Rattle.std.specs.Prelude.{ℕ, ◌+◌, List, [], ◌∷◌, Bool, true, false, ◌||◌, ◌&&◌, not, Option, Some, None, if◌then◌else◌, ◌==◌, nat_le}

-- a line feed ends a line
abbrev pub is_line_feed : ℕ → Bool
is_line_feed byte = byte == 10

-- tab, line feed, carriage return, space
abbrev pub is_blank : ℕ → Bool
is_blank byte = byte == 9 || byte == 10 || byte == 13 || byte == 32

-- `{`, `}`
abbrev pub is_brace : ℕ → Bool
is_brace byte = byte == 123 || byte == 125

-- `#`
abbrev pub is_hash : ℕ → Bool
is_hash byte = byte == 35

-- whether a byte is allowed outside comments: a blank, or a visible ASCII character
abbrev pub is_allowed : ℕ → Bool
is_allowed byte = is_blank byte || (nat_le 33 byte && nat_le byte 126)

-- The text with a space in place of each byte of its comments. A comment begins at a `#`, may hold any bytes, and ends
-- before the next line feed. `inside` says whether the front is inside a comment.
abbrev pub bare : Bool → List ℕ → List ℕ
bare inside [] = []
bare inside (byte ∷ text) =
    if is_line_feed byte then 10 ∷ bare false text
    else if inside || is_hash byte then 32 ∷ bare true text
    else byte ∷ bare false text

abbrev pub without_comments : List ℕ → List ℕ
without_comments text = bare false text

-- the line after a byte, and the line at the end of a text, where `line` is the line at the front
abbrev pub line_behind : ℕ → ℕ → ℕ
line_behind line byte = if is_line_feed byte then line + 1 else line

abbrev pub last_line_from : ℕ → List ℕ → ℕ
last_line_from line [] = line
last_line_from line (byte ∷ text) = last_line_from (line_behind line byte) text

-- lines count from 1
abbrev pub last_line : List ℕ → ℕ
last_line text = last_line_from 1 text

-- the line of the first byte that is not allowed, if any, where `line` is the line at the front
abbrev pub forbidden_line_from : ℕ → List ℕ → Option ℕ
forbidden_line_from line [] = None
forbidden_line_from line (byte ∷ text) =
    if is_allowed byte then forbidden_line_from (line_behind line byte) text else Some line

abbrev pub forbidden_line : List ℕ → Option ℕ
forbidden_line text = forbidden_line_from 1 (without_comments text)

-- a brace or a chunk, and the line of its first byte
pub record Token : Type 0 where
  pub text : List ℕ
  pub line : ℕ

-- a byte of a chunk: no blank, no brace and no `#`
abbrev pub is_in_chunk : ℕ → Bool
is_in_chunk byte = not (is_blank byte || is_brace byte || is_hash byte)

abbrev pub begins_in_chunk : List ℕ → Bool
begins_in_chunk [] = false
begins_in_chunk (byte ∷ text) = is_in_chunk byte

-- The tokens that begin with this byte of a chunk. The flag says whether the next byte is of the same chunk; if so, the
-- byte goes to the front of the next token.
abbrev pub before_tokens : ℕ → ℕ → Bool → List Token → List Token
before_tokens byte line true (token ∷ tokens) = record { text = byte ∷ token.text; line = line } ∷ tokens
before_tokens byte line _ tokens = record { text = byte ∷ []; line = line } ∷ tokens

-- the tokens of a text without comments, where `line` is the line at its front: each brace, and each longest run of
-- bytes that are neither blanks nor braces
abbrev pub tokens_from : ℕ → List ℕ → List Token
tokens_from line [] = []
tokens_from line (byte ∷ text) =
    if is_line_feed byte then tokens_from (line + 1) text
    else if is_blank byte then tokens_from line text
    else if is_brace byte then record { text = byte ∷ []; line = line } ∷ tokens_from line text
    else before_tokens byte line (begins_in_chunk text) (tokens_from line text)

abbrev pub tokens : List ℕ → List Token
tokens text = tokens_from 1 (without_comments text)
