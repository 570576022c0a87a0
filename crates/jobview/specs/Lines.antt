-- The line that each status has on err, and the exit code of the process.
use Rattle.std.specs.Prelude.{ℕ, List, [], Some, codes}
use Rattle.program_io.specs.Lines.{said}
use Rattle.program_io.specs.declared.words.WordsErr.{WordsErr}
use Rattle.program_io.specs.declared.words.WordsErr.TheVariants.{NoText}
use Rattle.program_io.specs.declared.words.WordsErr.TheVariants as words_err
use Rattle.job_syntax.specs.Lines.{line_in, fault_words}
use Rattle.jobview.specs.declared.status.ViewRefusal.TheVariants.{TooLong, Job, TooDeep}
use Rattle.jobview.specs.declared.status.ViewStatus.{ViewStatus}
use Rattle.jobview.specs.declared.status.ViewStatus.TheVariants.{Done, Usage, ReadFault, Refused, WriteFault, Memory}

-- the line on err; a run that is done has none
abbrev pub status_line : ViewStatus → List ℕ
status_line Done = []
status_line Usage = codes "jobview: usage: jobview [--text] JOB\n"
status_line ReadFault = codes "jobview: read fault\n"
status_line (Refused TooLong) = codes "jobview: job longer than 1048576 bytes\n"
status_line (Refused (Job fault)) = said (codes "jobview") (Some (line_in fault)) (fault_words fault)
status_line (Refused TooDeep) = codes "jobview: canonical text nested too deep\n"
status_line WriteFault = codes "jobview: write fault\n"
status_line Memory = codes "jobview: out of memory\n"

abbrev pub exit_of : ViewStatus → ℕ
exit_of Done = 0
exit_of Usage = 2
exit_of ReadFault = 3
exit_of (Refused refusal) = 4
exit_of WriteFault = 5
exit_of Memory = 6

-- the status of a run that has no words
abbrev pub status_without_words : WordsErr → ViewStatus
status_without_words NoText = Usage
status_without_words words_err.Memory = Memory
