-- Consequences of the cause of a status and of its report.
use Rattle.std.proofs.Common.{◌≡◌, ℕ, ◌<◌, ◌≤◌, List, length, Bool, Option, Some, None, IfSome, Result, Ok, Err, IfOk, inl, inr, refl, sym, ap, subst, ◌∙◌, arith}
use Rattle.std.specs.Prelude.{IsTrue}
use Rattle.std.proofs.lemmas.List.{length-map}
use Rattle.std.proofs.lemmas.List.FromFn.{length-range_with_len}
use Rattle.sp_order.specs.Precedence.{leaf_count}
use Rattle.sp_order.specs.Jobs.{JobValue, IsJob}
use Rattle.batch_history.specs.Lawful.{Lawful}
use Rattle.batch_history.specs.declared.row.Row.{Row}
use Rattle.batch_history.specs.declared.report.Report.{Report}
use Rattle.core_model.specs.Reports.{IsDrivenReport, IsRunReport}
use Rattle.job_lang.specs.Language.{IsJobOf, IsFaultOf}
use Rattle.batch_history.specs.Book.{flat}
use Rattle.batch_history.specs.Text.{HaveNames, report_text}
use Rattle.program_io.specs.Reading.{WasRead}
use Rattle.batchrun.specs.Outcomes.{HasRun, PrintsRun, HasDriven, IsModelRun, Prints, FileCause, FileCompletes, IsUnlessMemory, IsFileAssured, FailsPast}
use Rattle.batchrun.specs.Code.Reading.{HasJob}
use Rattle.batchrun.specs.Code.Writing.{CanBeWritten, WritesReport}
use Rattle.batchrun.proofs.OutcomeLemmas.Headlines.{prints_with, past_with, report_runs, report_owes}
use Rattle.job_syntax.specs.declared.fault.JobFault.{JobFault}
use Rattle.batchrun.specs.declared.status.Refusal.TheVariants.{TooLong, Job}
use Rattle.batchrun.specs.declared.status.Status.{Status}
use Rattle.batchrun.specs.declared.status.Status.TheVariants.{Done, Made, Usage, ReadFault, Refused, WriteFault, Memory}
use Rattle.limits.specs.declared.TheConstants.{MOST_JOB_BYTES}

-- the calls of a lawful report are on objects without a name or with one of the job's names
abbrev pub NamesItsObjects : Type 0
NamesItsObjects = (job : JobValue) (workers : ℕ) (report : Report) → IsJob job → Lawful job workers report → HaveNames job.names (flat report.history)

-- a lawful report of a job has a row for each leaf, and the job has a name for each number
can_be_written : NamesItsObjects → (job : JobValue) (workers : ℕ) (report : Report) → IsJob job → Lawful job workers report → CanBeWritten job report
can_be_written names job workers report is lawful = record {
  rows = sym (length-map report.rows (λ (row : Row). row.leaf)) ∙ ap length lawful.rows.leaves ∙ length-range_with_len 0 (leaf_count job.shape);
  numbers = names job workers report is lawful;
}

-- so does the report of a run, where the run gives one
pub run_can_be_written : {E : Type 0} → NamesItsObjects → (job : JobValue) (workers : ℕ) (run : Result Report E) → IsJob job → IfOk run (λ report. Lawful job workers report) → IfOk run (CanBeWritten job)
run_can_be_written names job workers (Ok report) is lawful = can_be_written names job workers report is lawful
run_can_be_written names job workers (Err e) is lawful = tt

-- a lawful report of the job that was read satisfies `HasRun`
has_run : (held : Option (List ℕ)) (workers : ℕ) (job : JobValue) (report : Report) → HasJob held job → Lawful job workers report → HasRun held workers report
has_run held workers job report has lawful = record { bytes = has.bytes; read = has.read; job = job; accepted = has.accepted; lawful = lawful }

module _ {E : Type 0} (held : Option (List ℕ)) (workers : ℕ) (job : JobValue) (run : Result Report E) (has : HasJob held job) (lawful : IfOk run (λ report. Lawful job workers report)) where
  prints_run : (report : Report) (lines : List ℕ) → WritesReport run (report_text job.names) report lines → PrintsRun held workers report lines
  unfolding has_run
  prints_run report lines is = record { run = has_run held workers job report has (rw is.0 at lawful); text = is.1 }

  -- an outcome prints the text of its report for the job that was read
  pub ran : (status : Status) (report : Option Report) (old new : Option (List ℕ))
      → Prints (WritesReport run (report_text job.names)) status report old new → Prints (PrintsRun held workers) status report old new
  ran = prints_with (WritesReport run (report_text job.names)) (PrintsRun held workers) prints_run

  -- and fails to write only where this text is longer than the room
  pub ran_past : (status : Status) (report : Option Report) (room : ℕ)
      → FailsPast (WritesReport run (report_text job.names)) status report room → FailsPast (PrintsRun held workers) status report room
  ran_past = past_with (WritesReport run (report_text job.names)) (PrintsRun held workers) prints_run

  -- its report satisfies `HasDriven`, where turns made it
  pub drove : (turns : List ℕ) (status : Status) (report : Option Report) (old new : Option (List ℕ)) → IfOk run (λ report. IsDrivenReport job workers turns report)
      → Prints (WritesReport run (report_text job.names)) status report old new → IfSome report (HasDriven held workers turns)
  unfolding has_run
  drove turns status report old new driven line =
      report_runs (WritesReport run (report_text job.names)) (HasDriven held workers turns)
      (λ report lines is. record { run = has_run held workers job report has (rw is.0 at lawful); driven = rw is.0 at driven }) status report old new line

model_of : {E : Type 0} (held : Option (List ℕ)) (workers : ℕ) (job : JobValue) (run : Result Report E) → HasJob held job
    → IfOk run (λ report. Lawful job workers report) → IfOk run (IsRunReport job workers) → IfOk run (IsModelRun held workers)
unfolding has_run
model_of held workers job (Ok report) has lawful model = record { run = has_run held workers job report has lawful; model = model }
model_of held workers job (Err e) has lawful model = tt

-- and `IsModelRun`, where the run is one of the model
pub models : {E : Type 0} (held : Option (List ℕ)) (workers : ℕ) (job : JobValue) (run : Result Report E) (status : Status) (report : Option Report) (old new : Option (List ℕ))
    → HasJob held job → IfOk run (λ report. Lawful job workers report) → IfOk run (IsRunReport job workers)
    → Prints (WritesReport run (report_text job.names)) status report old new → IfSome report (IsModelRun held workers)
models held workers job run status report old new has lawful model line =
    report_owes (IsModelRun held workers) run (report_text job.names) status report old new (model_of held workers job run has lawful model) line

-- where the bytes held are known, they are the bytes that were read
same_bytes : (held : Option (List ℕ)) (told bytes : List ℕ) → WasRead MOST_JOB_BYTES held bytes → held ≡ Some told → bytes ≡ told
same_bytes None told bytes read is = cc
same_bytes (Some xs) told bytes read is = let same : xs ≡ told = cc in read.whole ∙ same

-- a text that is a job has no fault
abbrev pub NoFault : Type 0
NoFault = (text : List ℕ) (job : JobValue) (fault : JobFault) → IsJobOf text job → IsFaultOf text fault → ⊥

abbrev pub OneFault : Type 0
OneFault = (text : List ℕ) (fault fault' : JobFault) → IsFaultOf text fault → IsFaultOf text fault' → fault ≡ fault'

-- a job of the bytes held is a job of the bytes that were read
job_read : (held : Option (List ℕ)) (told bytes : List ℕ) (job : JobValue) → WasRead MOST_JOB_BYTES held bytes → held ≡ Some told → IsJobOf told job → IsJobOf bytes job
job_read held told bytes job read is accepted = subst (λ text. IsJobOf text job) (sym (same_bytes held told bytes read is)) accepted

told_short : (told xs : List ℕ) → Some told ≡ Some xs → MOST_JOB_BYTES < length told → length xs ≤ MOST_JOB_BYTES → ⊥
told_short told xs is long short = let same : told ≡ xs = cc in omega (arith, ap length same)

-- a text is a text of one job at most
abbrev pub OneJob : Type 0
OneJob = (text : List ℕ) (job job' : JobValue) → IsJobOf text job → IsJobOf text job' → job ≡ job'

-- the lines that a run prints of a job that is held are the report's text for this job
held_text : OneJob → (held : Option (List ℕ)) (workers : ℕ) (told : List ℕ) (job : JobValue) (report : Report) (lines : List ℕ)
    → held ≡ Some told → IsJobOf told job → PrintsRun held workers report lines → report_text job.names report ≡ lines
held_text one_job held workers told job report lines is accepted prints =
    let same = one_job prints.run.bytes job prints.run.job (job_read held told prints.run.bytes job prints.run.read is accepted) prints.run.accepted in
    ap (λ (j : JobValue). report_text j.names report) same ∙ prints.text

-- the run is assured where no read fails and the report's text fits the room
pub is_assured : OneJob → NoFault → (status : Status) (report : Option Report) (held : Option (List ℕ)) (workers : ℕ) (R W : Type 0) (old new : Option (List ℕ)) (never_fails : Bool) (room : ℕ)
    → FileCause status held R W → Prints (PrintsRun held workers) status report old new → (IsTrue never_fails → (told : List ℕ) → held ≡ Some told → status ≡ ReadFault → ⊥) → FailsPast (PrintsRun held workers) status report room
    → IsFileAssured status report held never_fails room
is_assured one_job no_fault Done report held workers R W old new never_fails room why line reads past told job is short accepted never fits = inl refl
is_assured one_job no_fault Memory report held workers R W old new never_fails room why line reads past told job is short accepted never fits = inr refl
is_assured one_job no_fault Made report held workers R W old new never_fails room why line reads past told job is short accepted never fits = absurd why
is_assured one_job no_fault Usage report held workers R W old new never_fails room why line reads past told job is short accepted never fits = absurd why
is_assured one_job no_fault ReadFault report held workers R W old new never_fails room why line reads past told job is short accepted never fits = absurd (reads never told is refl)
is_assured one_job no_fault WriteFault None held workers R W old new never_fails room why line reads past told job is short accepted never fits = absurd line
is_assured one_job no_fault WriteFault (Some report) held workers R W old new never_fails room why line reads past told job is short accepted never fits =
    let text = held_text one_job held workers told job report past.0 is accepted past.1 in
    absurd (omega (arith, fits, past.2, ap length text))
is_assured one_job no_fault (Refused TooLong) report None workers R W old new never_fails room why line reads past told job is short accepted never fits = cc
is_assured one_job no_fault (Refused TooLong) report (Some xs) workers R W old new never_fails room why line reads past told job is short accepted never fits = absurd (told_short xs told is why short)
is_assured one_job no_fault (Refused (Job fault)) report held workers R W old new never_fails room why line reads past told job is short accepted never fits =
    absurd (no_fault why.bytes job fault (job_read held told why.bytes job why.read is accepted) why.why)

-- a fault of the bytes held is a fault of the bytes that were read
fault_read : (held : Option (List ℕ)) (told bytes : List ℕ) (fault : JobFault) → WasRead MOST_JOB_BYTES held bytes → held ≡ Some told → IsFaultOf told fault → IsFaultOf bytes fault
fault_read held told bytes fault read is has = subst (λ text. IsFaultOf text fault) (sym (same_bytes held told bytes read is)) has

-- known bytes within the limit are not refused as too long
too_long_held : (held : Option (List ℕ)) (told : List ℕ) → held ≡ Some told → IfSome held (λ bytes. MOST_JOB_BYTES < length bytes) → length told ≤ MOST_JOB_BYTES → ⊥
too_long_held None told is long short = cc
too_long_held (Some xs) told is long short = let same : xs ≡ told = cc in omega (arith, ap length same, long, short)

-- bytes that were read to the end are not too many
read_short : (held : Option (List ℕ)) (told bytes : List ℕ) → WasRead MOST_JOB_BYTES held bytes → held ≡ Some told → MOST_JOB_BYTES < length told → ⊥
read_short held told bytes read is long = omega (arith, read.short, long, ap length (same_bytes held told bytes read is))

-- a file that is too long is refused as such, unless memory runs out
too_long_ends : (status : Status) (report : Option Report) (held : Option (List ℕ)) (workers : ℕ) (R W : Type 0) (old new : Option (List ℕ)) (told : List ℕ)
    → FileCause status held R W → Prints (PrintsRun held workers) status report old new → held ≡ Some told → ¬ R → MOST_JOB_BYTES < length told → IsUnlessMemory status (Refused TooLong)
too_long_ends Done None held workers R W old new told why line is calm long = absurd line
too_long_ends Done (Some report) held workers R W old new told why line is calm long = absurd (read_short held told line.1.run.bytes line.1.run.read is long)
too_long_ends Memory report held workers R W old new told why line is calm long = inr refl
too_long_ends Made report held workers R W old new told why line is calm long = absurd why
too_long_ends Usage report held workers R W old new told why line is calm long = absurd why
too_long_ends ReadFault report held workers R W old new told why line is calm long = absurd (calm why)
too_long_ends WriteFault None held workers R W old new told why line is calm long = absurd line
too_long_ends WriteFault (Some report) held workers R W old new told why line is calm long = absurd (read_short held told line.1.run.bytes line.1.run.read is long)
too_long_ends (Refused TooLong) report held workers R W old new told why line is calm long = inl refl
too_long_ends (Refused (Job fault)) report held workers R W old new told why line is calm long = absurd (read_short held told why.bytes why.read is long)

-- a file with a fault is refused for it, unless memory runs out
fault_ends : NoFault → OneFault → (status : Status) (report : Option Report) (held : Option (List ℕ)) (workers : ℕ) (R W : Type 0) (old new : Option (List ℕ)) (told : List ℕ) (fault : JobFault)
    → FileCause status held R W → Prints (PrintsRun held workers) status report old new → held ≡ Some told → ¬ R → length told ≤ MOST_JOB_BYTES → IsFaultOf told fault → IsUnlessMemory status (Refused (Job fault))
fault_ends no_fault one_fault Done None held workers R W old new told fault why line is calm short has = absurd line
fault_ends no_fault one_fault Done (Some report) held workers R W old new told fault why line is calm short has =
    let run = line.1.run in
    absurd (no_fault run.bytes run.job fault run.accepted (fault_read held told run.bytes fault run.read is has))
fault_ends no_fault one_fault Memory report held workers R W old new told fault why line is calm short has = inr refl
fault_ends no_fault one_fault Made report held workers R W old new told fault why line is calm short has = absurd why
fault_ends no_fault one_fault Usage report held workers R W old new told fault why line is calm short has = absurd why
fault_ends no_fault one_fault ReadFault report held workers R W old new told fault why line is calm short has = absurd (calm why)
fault_ends no_fault one_fault WriteFault None held workers R W old new told fault why line is calm short has = absurd line
fault_ends no_fault one_fault WriteFault (Some report) held workers R W old new told fault why line is calm short has =
    let run = line.1.run in
    absurd (no_fault run.bytes run.job fault run.accepted (fault_read held told run.bytes fault run.read is has))
fault_ends no_fault one_fault (Refused TooLong) report held workers R W old new told fault why line is calm short has = absurd (too_long_held held told is why short)
fault_ends no_fault one_fault (Refused (Job found)) report held workers R W old new told fault why line is calm short has =
    inl (ap (λ (f : JobFault). Refused (Job f)) (one_fault why.bytes found fault why.why (fault_read held told why.bytes fault why.read is has)))

-- an accepted job is done where no write fails, unless memory runs out
job_ends : NoFault → (status : Status) (held : Option (List ℕ)) (R W : Type 0) (told : List ℕ) (job : JobValue)
    → FileCause status held R W → held ≡ Some told → ¬ R → ¬ W → length told ≤ MOST_JOB_BYTES → IsJobOf told job → IsUnlessMemory status Done
job_ends no_fault Done held R W told job why is calm calm' short accepted = inl refl
job_ends no_fault Memory held R W told job why is calm calm' short accepted = inr refl
job_ends no_fault Made held R W told job why is calm calm' short accepted = absurd why
job_ends no_fault Usage held R W told job why is calm calm' short accepted = absurd why
job_ends no_fault ReadFault held R W told job why is calm calm' short accepted = absurd (calm why)
job_ends no_fault WriteFault held R W told job why is calm calm' short accepted = absurd (calm' why)
job_ends no_fault (Refused TooLong) held R W told job why is calm calm' short accepted = absurd (too_long_held held told is why short)
job_ends no_fault (Refused (Job fault)) held R W told job why is calm calm' short accepted =
    absurd (no_fault why.bytes job fault (job_read held told why.bytes job why.read is accepted) why.why)

-- each file ends a run as its bytes call for, unless memory runs out
pub completes : OneFault → NoFault → (status : Status) (report : Option Report) (held : Option (List ℕ)) (workers : ℕ) (R W : Type 0) (old new : Option (List ℕ))
    → FileCause status held R W → Prints (PrintsRun held workers) status report old new → FileCompletes status held R W
completes one_fault no_fault status report held workers R W old new why line = record {
  too_long = λ told is calm long. too_long_ends status report held workers R W old new told why line is calm long;
  refused = λ told fault is calm short has. fault_ends no_fault one_fault status report held workers R W old new told fault why line is calm short has;
  accepted = λ told job is calm calm' short accepted. job_ends no_fault status held R W told job why is calm calm' short accepted;
}
