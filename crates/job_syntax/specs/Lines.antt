-- The line of a fault, and its message.
use Rattle.std.specs.Prelude.{ℕ, List, codes}
use Rattle.job_syntax.specs.declared.fault.JobFault.{JobFault}
use Rattle.job_syntax.specs.declared.fault.JobFault.TheVariants.{Byte, Grammar, Number, Nesting, Leaves, Argument, Name}

abbrev pub line_in : JobFault → ℕ
line_in (Byte line) = line
line_in (Grammar line) = line
line_in (Number line) = line
line_in (Nesting line) = line
line_in (Leaves line) = line
line_in (Argument line) = line
line_in (Name line) = line

abbrev pub fault_words : JobFault → List ℕ
fault_words (Byte line) = codes "byte not allowed"
fault_words (Grammar line) = codes "not in the grammar"
fault_words (Number line) = codes "number out of range"
fault_words (Nesting line) = codes "blocks nested too deep"
fault_words (Leaves line) = codes "too many leaves"
fault_words (Argument line) = codes "argument out of range"
fault_words (Name line) = codes "name not known here"
