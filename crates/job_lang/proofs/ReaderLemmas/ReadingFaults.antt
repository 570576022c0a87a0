-- Which kinds of fault a reading may find.
use Rattle.std.proofs.Common.{◌≡◌, ℕ, List, [], ◌∷◌, ◌++◌, None, inl, inr}
use Rattle.job_syntax.specs.declared.lexer.word.WordOnLine.{WordOnLine}
use Rattle.job_syntax.specs.declared.fault.JobFault.{JobFault}
use Rattle.job_syntax.specs.declared.fault.JobFault.TheVariants as fault
use Rattle.job_syntax.specs.Text.{forbidden_line, last_line}
use Rattle.job_syntax.specs.Words.{words_on_lines}
use Rattle.job_syntax.specs.Faults.{IsReadingFault, IsReadingFaultBehind}
use Rattle.job_lang.specs.Language.{IsFaultOf}

-- a reading finds no fault of the other kinds

no_byte : (last line : ℕ) (before tokens : List WordOnLine) → IsReadingFaultBehind last before tokens (fault.Byte line) → ⊥
no_byte last line before [] found = cc (found.0)
no_byte last line before (token ∷ tokens) (inl here) = here
no_byte last line before (token ∷ tokens) (inr behind) = no_byte last line (before ++ token ∷ []) tokens behind.1

no_leaves : (last line : ℕ) (before tokens : List WordOnLine) → IsReadingFaultBehind last before tokens (fault.Leaves line) → ⊥
no_leaves last line before [] found = cc (found.0)
no_leaves last line before (token ∷ tokens) (inl here) = here
no_leaves last line before (token ∷ tokens) (inr behind) = no_leaves last line (before ++ token ∷ []) tokens behind.1

no_argument : (last line : ℕ) (before tokens : List WordOnLine) → IsReadingFaultBehind last before tokens (fault.Argument line) → ⊥
no_argument last line before [] found = cc (found.0)
no_argument last line before (token ∷ tokens) (inl here) = here
no_argument last line before (token ∷ tokens) (inr behind) = no_argument last line (before ++ token ∷ []) tokens behind.1

-- a fault of reading is a fault of the text
pub reading_fault : (text : List ℕ) (found : JobFault) → forbidden_line text ≡ None → IsReadingFault (last_line text) (words_on_lines text) found → IsFaultOf text found
reading_fault text (fault.Byte line) allowed read = absurd (no_byte (last_line text) line [] (words_on_lines text) read)
reading_fault text (fault.Leaves line) allowed read = absurd (no_leaves (last_line text) line [] (words_on_lines text) read)
reading_fault text (fault.Argument line) allowed read = absurd (no_argument (last_line text) line [] (words_on_lines text) read)
reading_fault text (fault.Grammar line) allowed read = (allowed, read)
reading_fault text (fault.Number line) allowed read = (allowed, read)
reading_fault text (fault.Nesting line) allowed read = (allowed, read)
reading_fault text (fault.Name line) allowed read = (allowed, read)
