-- The line that each status has on err, and the exit code of the process.
use Rattle.std.specs.Prelude.{ℕ, List, [], Some, codes}
use Rattle.program_io.specs.Lines.{said}
use Rattle.program_io.specs.declared.words.WordsErr.{WordsErr}
use Rattle.program_io.specs.declared.words.WordsErr.TheVariants.{NoText}
use Rattle.program_io.specs.declared.words.WordsErr.TheVariants as words_err
use Rattle.batchview.specs.declared.status.ViewRefusal.TheVariants.{TooLong, NoReport}
use Rattle.batchview.specs.declared.status.ViewStatus.{ViewStatus}
use Rattle.batchview.specs.declared.status.ViewStatus.TheVariants.{Done, Usage, ReadFault, Refused, WriteFault, Memory}

-- the line on err; a picture that was written has none
abbrev pub status_line : ViewStatus → List ℕ
status_line Done = []
status_line Usage = codes "batchview: usage: batchview REPORT\n"
status_line ReadFault = codes "batchview: read fault\n"
status_line (Refused TooLong) = codes "batchview: report longer than 8388608 bytes\n"
status_line (Refused (NoReport line)) = said (codes "batchview") (Some line) (codes "not a report")
status_line WriteFault = codes "batchview: write fault\n"
status_line Memory = codes "batchview: out of memory\n"

abbrev pub exit_of : ViewStatus → ℕ
exit_of Done = 0
exit_of Usage = 2
exit_of ReadFault = 3
exit_of (Refused refusal) = 4
exit_of WriteFault = 5
exit_of Memory = 6

-- the status of a run that has no words
abbrev pub status_without_words : WordsErr → ViewStatus
status_without_words NoText = Usage
status_without_words words_err.Memory = Memory
