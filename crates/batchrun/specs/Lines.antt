-- The line that each status has on err, and the exit code of the process.
use Rattle.std.specs.Prelude.{ℕ, List, [], ◌++◌, codes}
use Rattle.std.specs.Fmt.{decimal}
use Rattle.job_syntax.specs.Lines.{line_in, fault_words}
use Rattle.job_syntax.specs.declared.fault.JobFault.{JobFault}
use Rattle.batchrun.specs.declared.status.Refusal.TheVariants.{TooLong, Job}
use Rattle.batchrun.specs.declared.status.Status.{Status}
use Rattle.batchrun.specs.declared.status.Status.TheVariants.{Done, Made, Usage, ReadFault, Refused, WriteFault, Memory}

abbrev pub refusal_line : JobFault → List ℕ
refusal_line fault = codes "batchrun: line " ++ (decimal (line_in fault) ++ (codes ": " ++ (fault_words fault ++ codes "\n")))

abbrev pub fault_line : Status → List ℕ
fault_line Done = []
fault_line Made = []
fault_line Usage = codes "batchrun: usage: step FILE WORKERS [SCHEDULE] | run FILE WORKERS | gen SIZE SEED WORKERS\n"
fault_line ReadFault = codes "batchrun: read fault\n"
fault_line (Refused TooLong) = codes "batchrun: job longer than 1048576 bytes\n"
fault_line (Refused (Job fault)) = refusal_line fault
fault_line WriteFault = codes "batchrun: write fault\n"
fault_line Memory = codes "batchrun: out of memory\n"

abbrev pub exit_of : Status → ℕ
exit_of Done = 0
exit_of Made = 0
exit_of Usage = 2
exit_of ReadFault = 3
exit_of (Refused refusal) = 4
exit_of WriteFault = 5
exit_of Memory = 6
