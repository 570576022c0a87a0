-- The texts of raw reports, and what reading a text answers: for a job, or alone.
use Rattle.std.specs.Prelude.{◌≡◌, ℕ, List, map, Result, Ok, Err, ⊤}
use Rattle.seq_objects.specs.Words.{op_words}
use Rattle.seq_objects.specs.declared.reply.Reply.{Reply}
use Rattle.job_names.specs.Names.{AreSpelled, spelling}
use Rattle.sp_order.specs.Jobs.{JobValue}
use Rattle.batch_history.specs.Book.{flat}
use Rattle.batch_history.specs.Text.{HaveNames, report_text}
use Rattle.batch_history.specs.declared.batch.Entry.{Entry}
use Rattle.batch_history.specs.declared.report.Report.{Report}
use Rattle.report_reader.specs.Raw.{FitsTypes, IsRaw}
use Rattle.report_reader.specs.declared.error.ReadReportErr.{ReadReportErr}
use Rattle.report_reader.specs.declared.error.ReadReportErr.TheVariants.{NoReport, Memory}
use Rattle.report_reader.specs.declared.raw.NamedReport.{NamedReport}

-- the report is raw for the job, and this is its text
pub record HasText (job : JobValue) (text : List ℕ) (report : Report) : Type 0 where
  pub raw : IsRaw job report
  pub written : report_text job.names report ≡ text

-- the answer to a text: a raw report of the job that has it, or that none has it, or that memory ran out
abbrev pub IsReading : JobValue → List ℕ → Result Report ReadReportErr → Type 0
IsReading job text (Ok report) = HasText job text report
IsReading job text (Err NoReport) = (report : Report) → HasText job text report → ⊥
IsReading job text (Err Memory) = ⊤

-- a report, and the names of the objects that it numbers 1, 2, and so on
pub record Named : Type 0 where
  pub names : List (List ℕ)
  pub report : Report

-- the report needs no job: its numbers fit, its objects have names, and with these this is its text
pub record HasNamedText (text : List ℕ) (named : Named) : Type 0 where
  pub fits : FitsTypes named.report
  pub numbers : HaveNames named.names (flat named.report.history)
  pub spelled : AreSpelled named.names
  pub written : report_text named.names named.report ≡ text

-- a report that was read alone, with its names
abbrev pub named_in : NamedReport → Named
named_in read = record { names = map spelling read.names.items; report = read.raw }

-- the answer to a text alone: a report and names that have it, or that none have it, or that memory ran out
abbrev pub IsNamedReading : List ℕ → Result NamedReport ReadReportErr → Type 0
IsNamedReading text (Ok read) = HasNamedText text (named_in read)
IsNamedReading text (Err NoReport) = (named : Named) → HasNamedText text named → ⊥
IsNamedReading text (Err Memory) = ⊤

-- an entry in the words of the report's text
pub record Worded : Type 0 where
  pub leaf : ℕ
  pub worker : ℕ
  pub words : List ℕ
  pub reply : Reply

abbrev pub worded : List (List ℕ) → Entry → Worded
worded names entry = record { leaf = entry.leaf; worker = entry.worker; words = op_words names entry.op; reply = entry.reply }

-- the batches of a report in the words of its text
abbrev pub worded_book : Named → List (List Worded)
worded_book named = map (λ batch. map (worded named.names) batch) named.report.history

-- the reports differ by the numbers of their objects alone: in words they are one
pub record AreAlike (first second : Named) : Type 0 where
  pub workers : first.report.workers ≡ second.report.workers
  pub books : worded_book first ≡ worded_book second
  pub rows : first.report.rows ≡ second.report.rows
