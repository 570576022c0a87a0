-- Consequences of `Prints` and `FailsPast`, for weaker statements about the report.
use Rattle.std.proofs.Common.{ℕ, List, Option, Some, None, IfSome, Result, IfOk}
use Rattle.batch_history.specs.declared.report.Report.{Report}
use Rattle.batchrun.specs.Outcomes.{Prints, FailsPast}
use Rattle.batchrun.specs.Code.Writing.{WritesReport}
use Rattle.batchrun.specs.declared.status.Status.{Status}
use Rattle.batchrun.specs.declared.status.Status.TheVariants.{Done, Made, Usage, ReadFault, Refused, WriteFault, Memory}

module _ (Told Runs : Report → List ℕ → Type 0) (runs : (report : Report) (lines : List ℕ) → Told report lines → Runs report lines) where
  -- a report and lines with one property have another that follows from it
  pub prints_with : (status : Status) (report : Option Report) (old new : Option (List ℕ)) → Prints Told status report old new → Prints Runs status report old new
  prints_with Done (Some report) old new line = (line.0, runs report line.0 line.1, line.2)
  prints_with Made (Some report) old new line = (line.0, runs report line.0 line.1, line.2)
  prints_with WriteFault (Some report) old new line = (line.0, runs report line.0 line.1, line.2)
  prints_with Done None old new line = line
  prints_with Made None old new line = line
  prints_with WriteFault None old new line = line
  prints_with Usage None old new line = line
  prints_with ReadFault None old new line = line
  prints_with (Refused refusal) None old new line = line
  prints_with Memory None old new line = line
  prints_with Usage (Some report) old new line = line
  prints_with ReadFault (Some report) old new line = line
  prints_with (Refused refusal) (Some report) old new line = line
  prints_with Memory (Some report) old new line = line

  -- so do a report and lines that are longer than the room
  pub past_with : (status : Status) (report : Option Report) (room : ℕ) → FailsPast Told status report room → FailsPast Runs status report room
  past_with WriteFault (Some report) room past = (past.0, runs report past.0 past.1, past.2)
  past_with WriteFault None room past = tt
  past_with Done report room past = tt
  past_with Made report room past = tt
  past_with Usage report room past = tt
  past_with ReadFault report room past = tt
  past_with (Refused refusal) report room past = tt
  past_with Memory report room past = tt

-- the report, if there is one, has what follows from what `Prints` says of it
pub report_runs : (Runs : Report → List ℕ → Type 0) (Owed : Report → Type 0) → ((report : Report) (lines : List ℕ) → Runs report lines → Owed report)
    → (status : Status) (report : Option Report) (old new : Option (List ℕ)) → Prints Runs status report old new → IfSome report Owed
report_runs Runs Owed owes status None old new line = tt
report_runs Runs Owed owes Done (Some report) old new line = owes report line.0 line.1
report_runs Runs Owed owes Made (Some report) old new line = owes report line.0 line.1
report_runs Runs Owed owes WriteFault (Some report) old new line = owes report line.0 line.1
report_runs Runs Owed owes Usage (Some report) old new line = absurd line
report_runs Runs Owed owes ReadFault (Some report) old new line = absurd line
report_runs Runs Owed owes (Refused refusal) (Some report) old new line = absurd line
report_runs Runs Owed owes Memory (Some report) old new line = absurd line

-- what holds of the report of the run holds of the report of the outcome
pub report_owes : {E : Type 0} (Owed : Report → Type 0) (run : Result Report E) (lines_of : Report → List ℕ) (status : Status) (report : Option Report) (old new : Option (List ℕ))
    → IfOk run Owed → Prints (WritesReport run lines_of) status report old new → IfSome report Owed
report_owes Owed run lines_of status report old new owed line =
    report_runs (WritesReport run lines_of) Owed (λ report lines is. rw is.0 at owed) status report old new line
