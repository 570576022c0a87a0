-- What each command owes: which run its report is of, what it prints, and why each status comes.
use Rattle.std.specs.Prelude.{◌≡◌, ℕ, ◌≤◌, List, length, Bool, IsTrue, Option, None, Some, IfSome}
use Rattle.std.specs.Io.KnownBytes.{Appends}
use Rattle.batch_history.specs.declared.report.Report.{Report}
use Rattle.batch_history.specs.Lawful.{Lawful}
use Rattle.batch_history.specs.Summary.{summary_of_report, summary_of_job}
use Rattle.core_model.specs.Reports.{IsRunReport}
use Rattle.job_writer.specs.Generator.{generated}
use Rattle.batchrun.specs.Words.{Command, step, run, gen}
use Rattle.batchrun.specs.Outcomes.{PrintsRun, HasDriven, IsModelRun, FileCause, MadeCause, FileCompletes, IsFileAssured, FailsPast, IsUnlessMemory}
use Rattle.batchrun.specs.declared.status.Status.{Status}
use Rattle.batchrun.specs.declared.status.Status.TheVariants.{Made}

-- Below, `held` gives the bytes that the shelf holds under each name, where they are known.

-- the command's file, if it names one, is among those that the shelf may be asked for
abbrev pub MayRead : (List ℕ → Bool) → Option Command → Type 0
MayRead may (Some (step file workers schedule)) = IsTrue (may file)
MayRead may (Some (run file workers)) = IsTrue (may file)
MayRead may _ = Unit {0}

-- the report is lawful for the generated job, and the lines are its summary
abbrev pub PrintsMade : ℕ → ℕ → ℕ → Report → List ℕ → Type 0
PrintsMade size seed workers report lines =
    Lawful (generated seed size) workers report × (summary_of_report seed size report ≡ lines)

-- The report is lawful, for the job of the command's file or for the generated job, and for the command's number of
-- workers; the lines are the summary for `gen`, and the text for the others. Words that are no command have no report.
abbrev pub Runs : Option Command → (List ℕ → Option (List ℕ)) → Report → List ℕ → Type 0
Runs (Some (step file workers schedule)) held = PrintsRun (held file) workers
Runs (Some (run file workers)) held = PrintsRun (held file) workers
Runs (Some (gen size seed workers)) held = PrintsMade size seed workers
Runs None held = λ report lines. ⊥

-- the report of a `step` command is the one that its turns make
abbrev pub Driven : Option Command → (List ℕ → Option (List ℕ)) → Report → Type 0
Driven (Some (step file workers schedule)) held report = HasDriven (held file) workers schedule report
Driven _ held report = Unit {0}

-- The report is lawful and that of a run of the model, whether the command runs its job by turns or in threads.
abbrev pub RunsModel : Option Command → (List ℕ → Option (List ℕ)) → Report → Type 0
RunsModel (Some (step file workers schedule)) held = IsModelRun (held file) workers
RunsModel (Some (run file workers)) held = IsModelRun (held file) workers
RunsModel (Some (gen size seed workers)) held = IsRunReport (generated seed size) workers
RunsModel None held = λ report. ⊥

-- why a command ends with this status
abbrev pub HasCause : Command → (List ℕ → Option (List ℕ)) → Status → Type 0 → Type 0 → Type 0
HasCause (step file workers schedule) held status ReadsFailed WritesFailed = FileCause status (held file) ReadsFailed WritesFailed
HasCause (run file workers) held status ReadsFailed WritesFailed = FileCause status (held file) ReadsFailed WritesFailed
HasCause (gen size seed workers) held status ReadsFailed WritesFailed = MadeCause status WritesFailed

-- which status comes where no read or write fails
abbrev pub Completes : Command → (List ℕ → Option (List ℕ)) → Status → Type 0 → Type 0 → Type 0
Completes (step file workers schedule) held status ReadsFailed WritesFailed = FileCompletes status (held file) ReadsFailed WritesFailed
Completes (run file workers) held status ReadsFailed WritesFailed = FileCompletes status (held file) ReadsFailed WritesFailed
Completes (gen size seed workers) held status ReadsFailed WritesFailed = ¬ WritesFailed → IsUnlessMemory status Made

-- the status where the shelf never fails and out has room for all lines, unless memory runs out
abbrev pub IsAssured : Command → (List ℕ → Option (List ℕ)) → Status → Option Report → Bool → ℕ → Type 0
IsAssured (step file workers schedule) held status report never_fails room = IsFileAssured status report (held file) never_fails room
IsAssured (run file workers) held status report never_fails room = IsFileAssured status report (held file) never_fails room
IsAssured (gen size seed workers) held status report never_fails room =
    length (summary_of_job seed size workers (generated seed size)) ≤ room → IsUnlessMemory status Made

-- What a command owes beside what it prints. `Completes` and `IsAssured` speak of runs without a failed read or write.
pub record Owes (command : Command) (held : List ℕ → Option (List ℕ)) (status : Status) (report : Option Report) (ReadsFailed WritesFailed : Type 0) (never_fails : Bool) (room : ℕ) : Type 0 where
  pub driven : IfSome report (Driven (Some command) held)
  pub model : IfSome report (RunsModel (Some command) held)
  pub cause : HasCause command held status ReadsFailed WritesFailed
  pub completes : Completes command held status ReadsFailed WritesFailed
  pub writes : FailsPast (Runs (Some command) held) status report room
  pub assured : IsAssured command held status report never_fails room

-- where a generated job was made, the printed summary is determined by the words alone: it is the summary of that job
abbrev pub PrintsSummary : Option Command → Status → Option (List ℕ) → Option (List ℕ) → Type 0
PrintsSummary (Some (gen size seed workers)) Made old new = Appends old new (summary_of_job seed size workers (generated seed size))
PrintsSummary _ status old new = Unit {0}
