-- What the program prints of a flaw, the line that each verdict has on err, and the exit code of the process.
use Rattle.std.specs.Prelude.{ℕ, List, [], ◌++◌, codes, Option, None, Some}
use Rattle.std.specs.Fmt.{decimal}
use Rattle.program_io.specs.declared.words.WordsErr.{WordsErr}
use Rattle.program_io.specs.declared.words.WordsErr.TheVariants.{NoText}
use Rattle.program_io.specs.declared.words.WordsErr.TheVariants as words_err
use Rattle.job_syntax.specs.Lines.{line_in, fault_words}
use Rattle.job_syntax.specs.declared.fault.JobFault.{JobFault}
use Rattle.report_check.specs.declared.flaw.Flaw.{Flaw}
use Rattle.report_check.specs.declared.flaw.Flaw.TheVariants.{Text, Rows, Order, Calls, Replies, Ticks, Batches, Values}
use Rattle.batchcheck.specs.declared.verdict.CheckRefusal.TheVariants.{JobTooLong, ReportTooLong, Job}
use Rattle.batchcheck.specs.declared.verdict.Verdict.{Verdict}
use Rattle.batchcheck.specs.declared.verdict.Verdict.TheVariants.{Lawful, Flawed, Usage, ReadFault, Refused, WriteFault, Memory}

-- the word of a flaw
abbrev pub flaw_word : Flaw → List ℕ
flaw_word Text = codes "text"
flaw_word Rows = codes "rows"
flaw_word Order = codes "order"
flaw_word Calls = codes "calls"
flaw_word Replies = codes "replies"
flaw_word Ticks = codes "ticks"
flaw_word Batches = codes "batches"
flaw_word Values = codes "values"

-- what is printed of a text with this flaw, or without one
abbrev pub verdict_text : Option Flaw → List ℕ
verdict_text None = codes "lawful\n"
verdict_text (Some flaw) = codes "not lawful: " ++ (flaw_word flaw ++ codes "\n")

abbrev pub refusal_line : JobFault → List ℕ
refusal_line fault = codes "batchcheck: line " ++ (decimal (line_in fault) ++ (codes ": " ++ (fault_words fault ++ codes "\n")))

-- the line on err; a verdict that was printed has none
abbrev pub verdict_line : Verdict → List ℕ
verdict_line Lawful = []
verdict_line (Flawed flaw) = []
verdict_line Usage = codes "batchcheck: usage: batchcheck JOB REPORT\n"
verdict_line ReadFault = codes "batchcheck: read fault\n"
verdict_line (Refused JobTooLong) = codes "batchcheck: job longer than 1048576 bytes\n"
verdict_line (Refused ReportTooLong) = codes "batchcheck: report longer than 8388608 bytes\n"
verdict_line (Refused (Job fault)) = refusal_line fault
verdict_line WriteFault = codes "batchcheck: write fault\n"
verdict_line Memory = codes "batchcheck: out of memory\n"

abbrev pub exit_of : Verdict → ℕ
exit_of Lawful = 0
exit_of (Flawed flaw) = 1
exit_of Usage = 2
exit_of ReadFault = 3
exit_of (Refused refusal) = 4
exit_of WriteFault = 5
exit_of Memory = 6

-- the verdict of a run that has no words
abbrev pub verdict_without_words : WordsErr → Verdict
verdict_without_words NoText = Usage
verdict_without_words words_err.Memory = Memory
