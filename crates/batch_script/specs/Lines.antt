-- The line that each status has on err, and the number with which the process exits.
use Rattle.std.specs.Prelude.{ℕ, List, [], ◌++◌, codes}
use Rattle.std.specs.Fmt.{decimal}
use Rattle.program_io.specs.declared.words.WordsErr.{WordsErr}
use Rattle.program_io.specs.declared.words.WordsErr.TheVariants.{NoText}
use Rattle.program_io.specs.declared.words.WordsErr.TheVariants as words_err
use Rattle.batch_script.specs.declared.fault.ScriptFault.{ScriptFault}
use Rattle.batch_script.specs.declared.fault.ScriptFault.TheVariants.{Call, Batch, Calls}
use Rattle.batch_script.specs.declared.status.ScriptStatus.{ScriptStatus}
use Rattle.batch_script.specs.declared.status.ScriptStatus.TheVariants.{Done, Usage, ReadFault, TooLong, Bad, WriteFault, Memory}

-- the status of a run that has no words
abbrev pub status_without_words : WordsErr → ScriptStatus
status_without_words NoText = Usage
status_without_words words_err.Memory = Memory

-- the line of a fault
abbrev pub line_in : ScriptFault → ℕ
line_in (Call line) = line
line_in (Batch line) = line
line_in (Calls line) = line

-- what is said of a fault
abbrev pub fault_words : ScriptFault → List ℕ
fault_words (Call line) = codes "not a call"
fault_words (Batch line) = codes "batch too large"
fault_words (Calls line) = codes "too many calls"

-- what is said of a status, by a program of this name
abbrev pub status_words : List ℕ → ScriptStatus → List ℕ
status_words name Done = []
status_words name Usage = codes "usage: " ++ name ++ codes " FILE"
status_words name ReadFault = codes "read fault"
status_words name TooLong = codes "script longer than 1048576 bytes"
status_words name (Bad fault) = codes "line " ++ decimal (line_in fault) ++ codes ": " ++ fault_words fault
status_words name WriteFault = codes "write fault"
status_words name Memory = codes "out of memory"

-- the line of a status, behind the program's name; done has none
abbrev pub status_line : List ℕ → ScriptStatus → List ℕ
status_line name Done = []
status_line name status = name ++ codes ": " ++ status_words name status ++ codes "\n"

abbrev pub exit_of : ScriptStatus → ℕ
exit_of Done = 0
exit_of Usage = 2
exit_of ReadFault = 3
exit_of TooLong = 4
exit_of (Bad fault) = 4
exit_of WriteFault = 5
exit_of Memory = 6
