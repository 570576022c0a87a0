-- What a cursor requires of the tokens that are left: the word that it takes with the tokens behind it, or the fault.
use Rattle.std.specs.Prelude.{ℕ, List, [], ◌∷◌, Bool, true, Option, Some, None, Result, Ok, Err, if◌then◌else◌, nat_le}
use Rattle.limits.specs.declared.TheConstants.{MOST_OPEN_BLOCKS}
use Rattle.job_syntax.specs.declared.lexer.word.Word.{Word}
use Rattle.job_syntax.specs.declared.lexer.word.Word.TheVariants.{Open, Equals, Named}
use Rattle.job_syntax.specs.declared.lexer.word.WordOnLine.{WordOnLine}
use Rattle.job_syntax.specs.declared.fault.JobFault.{JobFault}
use Rattle.job_syntax.specs.declared.fault.JobFault.TheVariants as fault
use Rattle.job_syntax.specs.declared.parser.call.Object.{Object}
use Rattle.job_syntax.specs.declared.parser.call.Operator.{Operator}
use Rattle.job_syntax.specs.Faults.{has_good_numbers}
use Rattle.job_syntax.specs.Grammar.{Items}
use Rattle.job_syntax.specs.Code.Machine.{object_of, takes, are_looped}
use Rattle.job_syntax.specs.Code.Shown.{OpenBlock, scope_at, is_shown}
use Rattle.job_names.specs.declared.name.Name.{Name}

-- a word that passes the test and has good numbers
abbrev pub word_at : ℕ → (Word → Bool) → List WordOnLine → Result (Word × List WordOnLine) JobFault
word_at last test [] = Err (fault.Grammar last)
word_at last test (token ∷ tokens) =
    if test token.word then (if has_good_numbers token.word then Ok (token.word, tokens) else Err (fault.Number token.line))
    else Err (fault.Grammar token.line)

-- a name is known where the open blocks show a let of it
abbrev pub is_known_word : List OpenBlock → Items → Word → Bool
is_known_word blocks items (Named name) = is_shown name (scope_at blocks items)
is_known_word blocks items _ = true

-- the argument of an operation, behind the items inside the open blocks
abbrev pub argument_at : ℕ → List OpenBlock → Items → Operator → List WordOnLine → Result (Word × List WordOnLine) JobFault
argument_at last blocks items op [] = Err (fault.Grammar last)
argument_at last blocks items op (token ∷ tokens) =
    if takes op (are_looped blocks) token.word then
    (if has_good_numbers token.word then
    (if is_known_word blocks items token.word then Ok (token.word, tokens) else Err (fault.Name token.line))
    else Err (fault.Number token.line))
    else Err (fault.Grammar token.line)

-- the name that a `let` gives
abbrev pub name_word : WordOnLine → List WordOnLine → Word → Result (Name × List WordOnLine) JobFault
name_word token tokens (Named name) = Ok (name, tokens)
name_word token tokens _ = Err (fault.Grammar token.line)

abbrev pub name_at : ℕ → List WordOnLine → Result (Name × List WordOnLine) JobFault
name_at last [] = Err (fault.Grammar last)
name_at last (token ∷ tokens) = name_word token tokens token.word

-- the `=` behind it
abbrev pub equals_word : WordOnLine → List WordOnLine → Word → Result (List WordOnLine) JobFault
equals_word token tokens Equals = Ok tokens
equals_word token tokens _ = Err (fault.Grammar token.line)

abbrev pub equals_at : ℕ → List WordOnLine → Result (List WordOnLine) JobFault
equals_at last [] = Err (fault.Grammar last)
equals_at last (token ∷ tokens) = equals_word token tokens token.word

-- the object that the word behind that names
abbrev pub object_word : WordOnLine → List WordOnLine → Option Object → Result (Object × List WordOnLine) JobFault
object_word token tokens None = Err (fault.Grammar token.line)
object_word token tokens (Some of) = Ok (of, tokens)

abbrev pub object_at : ℕ → List WordOnLine → Result (Object × List WordOnLine) JobFault
object_at last [] = Err (fault.Grammar last)
object_at last (token ∷ tokens) = object_word token tokens (object_of token.word)

-- a `{`, where fewer blocks are open than may be
abbrev pub brace_word : ℕ → WordOnLine → List WordOnLine → Word → Result (List WordOnLine) JobFault
brace_word open_now token tokens Open = if nat_le MOST_OPEN_BLOCKS open_now then Err (fault.Nesting token.line) else Ok tokens
brace_word open_now token tokens _ = Err (fault.Grammar token.line)

abbrev pub brace_at : ℕ → ℕ → List WordOnLine → Result (List WordOnLine) JobFault
brace_at last open_now [] = Err (fault.Grammar last)
brace_at last open_now (token ∷ tokens) = brace_word open_now token tokens token.word
