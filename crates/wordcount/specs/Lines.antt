-- The line that each status has on err, and the exit code of the process.
use Rattle.std.specs.Prelude.{ℕ, List, [], codes}
use Rattle.program_io.specs.declared.words.WordsErr.{WordsErr}
use Rattle.program_io.specs.declared.words.WordsErr.TheVariants.{NoText}
use Rattle.program_io.specs.declared.words.WordsErr.TheVariants as words_err
use Rattle.wordcount.specs.declared.status.CountStatus.{CountStatus}
use Rattle.wordcount.specs.declared.status.CountStatus.TheVariants.{Done, Usage, ReadFault, Refused, WriteFault, Memory}

-- the line on err; counts that were written have none
abbrev pub status_line : CountStatus → List ℕ
status_line Done = []
status_line Usage = codes "wordcount: usage: wordcount FILE THREADS\n"
status_line ReadFault = codes "wordcount: read fault\n"
status_line Refused = codes "wordcount: file longer than 67108864 bytes\n"
status_line WriteFault = codes "wordcount: write fault\n"
status_line Memory = codes "wordcount: out of memory\n"

abbrev pub exit_of : CountStatus → ℕ
exit_of Done = 0
exit_of Usage = 2
exit_of ReadFault = 3
exit_of Refused = 4
exit_of WriteFault = 5
exit_of Memory = 6

-- the status of a run that has no words
abbrev pub status_without_words : WordsErr → CountStatus
status_without_words NoText = Usage
status_without_words words_err.Memory = Memory
