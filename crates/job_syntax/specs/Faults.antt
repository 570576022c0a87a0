-- The fault of reading tokens from left to right: the first token with a fault decides; where none has one, the end of
-- the text may be the fault.
use Rattle.std.specs.Prelude.{◌≡◌, ℕ, ◌+◌, ◌-◌, ◌<◌, ◌≤◌, List, [], ◌∷◌, ◌++◌, map, Bool, true, false, ◌⊎◌, None, IsTrue}
use Rattle.limits.specs.declared.TheConstants.{MOST_OPEN_BLOCKS}
use Rattle.job_syntax.specs.declared.lexer.word.Word.{Word}
use Rattle.job_syntax.specs.declared.lexer.word.Word.TheVariants.{Open, Close, Number, Copies}
use Rattle.job_syntax.specs.declared.lexer.word.WordOnLine.{WordOnLine}
use Rattle.job_syntax.specs.declared.fault.JobFault.{JobFault}
use Rattle.job_syntax.specs.declared.fault.JobFault.TheVariants as fault
use Rattle.job_names.specs.declared.name.Name.{Name}
use Rattle.job_syntax.specs.Grammar.{Items, Derives, CanGoOn}
use Rattle.job_syntax.specs.Visibility.{Sees, IsUse, IsKnown}

abbrev pub words_of : List WordOnLine → List Word
words_of tokens = map (λ token. token.word) tokens

-- the numbers of the word, if it has any, have no leading zero and fit 32 bits
abbrev pub has_good_numbers : Word → Bool
has_good_numbers (Number None) = false
has_good_numbers (Copies None) = false
has_good_numbers _ = true

-- the number of blocks open after the words, where `open_now` are open before them
abbrev pub open_behind : ℕ → List Word → ℕ
open_behind open_now [] = open_now
open_behind open_now (Open ∷ words) = open_behind (open_now + 1) words
open_behind open_now (Close ∷ words) = open_behind (open_now - 1) words
open_behind open_now (_ ∷ words) = open_behind open_now words

-- the words up to and with this token can go on to words that the loose grammar derives
abbrev pub StandsBehind : List WordOnLine → WordOnLine → Type 0
StandsBehind before token = CanGoOn (words_of (before ++ token ∷ []))

-- The token, after those of `before`, has no fault.
pub record IsClean (before : List WordOnLine) (token : WordOnLine) : Type 0 where
  pub stands : StandsBehind before token
  pub numbers : IsTrue (has_good_numbers token.word)
  pub nests : token.word ≡ Open → open_behind 0 (words_of before) < MOST_OPEN_BLOCKS
  pub known : IsKnown (words_of before) token.word

-- None of the tokens, after those of `before`, has a fault.
abbrev pub AreClean : List WordOnLine → List WordOnLine → Type 0
AreClean before [] = Unit {0}
AreClean before (token ∷ tokens) = IsClean before token × AreClean (before ++ token ∷ []) tokens

-- The token, after those of `before`, has this fault: it cannot stand there; or it can, but its numbers are bad; or
-- they are good, but it is a `{` inside as many blocks as may be open; or it is a use of a name that sees no let of it.
abbrev pub Faults : List WordOnLine → WordOnLine → JobFault → Type 0
Faults before token (fault.Grammar line) = (line ≡ token.line) × (StandsBehind before token → ⊥)
Faults before token (fault.Number line) =
    (line ≡ token.line) × StandsBehind before token × (has_good_numbers token.word ≡ false)
Faults before token (fault.Nesting line) =
    (line ≡ token.line) × StandsBehind before token × IsTrue (has_good_numbers token.word) × (token.word ≡ Open) × (MOST_OPEN_BLOCKS ≤ open_behind 0 (words_of before))
Faults before token (fault.Name line) =
    (line ≡ token.line) × StandsBehind before token × (name : Name) × IsUse (words_of before) token.word name × (Sees (words_of before) name → ⊥)
Faults before token _ = ⊥

-- The fault of reading the tokens after those of `before`, which have none. Where no token has a fault, it is `Grammar`
-- on line `last`, if the loose grammar does not derive the whole list.
abbrev pub IsReadingFaultBehind : ℕ → List WordOnLine → List WordOnLine → JobFault → Type 0
IsReadingFaultBehind last before [] found =
    (found ≡ fault.Grammar last) × ((items : Items) → Derives (words_of before) items → ⊥)
IsReadingFaultBehind last before (token ∷ tokens) found =
    Faults before token found ⊎ (IsClean before token × IsReadingFaultBehind last (before ++ token ∷ []) tokens found)

abbrev pub IsReadingFault : ℕ → List WordOnLine → JobFault → Type 0
IsReadingFault last tokens found = IsReadingFaultBehind last [] tokens found
