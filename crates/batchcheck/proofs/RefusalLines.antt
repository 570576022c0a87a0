-- The line of a refusal, in pieces.
use Rattle.std.proofs.Common.{◌≡◌, ◌++◌, Some, codes, ap, append_assoc}
use Rattle.std.specs.Fmt.{decimal}
use Rattle.job_syntax.specs.Lines.{line_in, fault_words}
use Rattle.job_syntax.specs.declared.fault.JobFault.{JobFault}
use Rattle.program_io.specs.Lines.{said}
use Rattle.batchcheck.specs.Lines.{refusal_line}

pub refusal_said : (fault : JobFault) → said (codes "batchcheck") (Some (line_in fault)) (fault_words fault) ≡ refusal_line fault
refusal_said fault = ap (λ rest. codes "batchcheck: line " ++ rest) (append_assoc (decimal (line_in fault)) (codes ": ") (fault_words fault ++ codes "\n"))
