-- What each status of a run means: one definition for each concern, with a line for each status. `Commands` says which
-- of these a command owes.
use Rattle.std.specs.Prelude.{◌≡◌, ℕ, ◌<◌, ◌≤◌, ◌⊎◌, List, length, Bool, IsTrue, Option, None, Some, IfSome}
use Rattle.std.specs.Io.KnownBytes.{Appends, Keeps}
use Rattle.limits.specs.declared.TheConstants.{MOST_JOB_BYTES}
use Rattle.bt_io.specs.Bytes.{AppendsFront}
use Rattle.program_io.specs.Reading.{WasRead}
use Rattle.sp_order.specs.Jobs.{JobValue}
use Rattle.batch_history.specs.declared.report.Report.{Report}
use Rattle.batch_history.specs.Lawful.{Lawful}
use Rattle.batch_history.specs.Text.{report_text}
use Rattle.core_model.specs.Reports.{IsDrivenReport, IsRunReport}
use Rattle.job_lang.specs.Language.{IsJobOf, IsFaultOf}
use Rattle.job_syntax.specs.declared.fault.JobFault.{JobFault}
use Rattle.batchrun.specs.declared.status.Refusal.TheVariants.{TooLong, Job}
use Rattle.batchrun.specs.declared.status.Status.{Status}
use Rattle.batchrun.specs.declared.status.Status.TheVariants.{Done, Made, Usage, ReadFault, Refused, WriteFault, Memory}

-- The bytes that were read are a text of a job, and the report is lawful for this job and this number of workers.
pub record HasRun (held : Option (List ℕ)) (workers : ℕ) (report : Report) : Type 0 where
  pub bytes : List ℕ
  pub read : WasRead MOST_JOB_BYTES held bytes
  pub job : JobValue
  pub accepted : IsJobOf bytes job
  pub lawful : Lawful job workers report

-- Such a run prints these lines: the text of its report, in which objects have the names that the job gives them.
pub record PrintsRun (held : Option (List ℕ)) (workers : ℕ) (report : Report) (lines : List ℕ) : Type 0 where
  pub run : HasRun held workers report
  pub text : report_text run.job.names report ≡ lines

-- The bytes that were read are a text of a job, and the report is lawful and the one that turns make of this job: those
-- of the schedule, and then those of all workers round robin from worker 0 on.
pub record HasDriven (held : Option (List ℕ)) (workers : ℕ) (schedule : List ℕ) (report : Report) : Type 0 where
  pub run : HasRun held workers report
  pub driven : IsDrivenReport run.job workers schedule report

-- The bytes that were read are a text of a job, and the report is lawful and that of a run of the model: a trace of
-- events of the workers leads from the opening state of this job to a state whose root is done, and the report is that
-- of this state. For a job without leaves it has no rows and no batches.
pub record IsModelRun (held : Option (List ℕ)) (workers : ℕ) (report : Report) : Type 0 where
  pub run : HasRun held workers report
  pub model : IsRunReport run.job workers report

-- The bytes that were read have this fault.
pub record IsRefused (held : Option (List ℕ)) (fault : JobFault) : Type 0 where
  pub bytes : List ℕ
  pub read : WasRead MOST_JOB_BYTES held bytes
  pub why : IsFaultOf bytes fault

-- Whether there is a report, and what out took. `Runs` is what a run owes of its report and of the lines that it prints
-- of it. Where the status is none of `Done`, `Made` and `WriteFault`, there is no report and out takes nothing.
abbrev pub Prints : (Report → List ℕ → Type 0) → Status → Option Report → Option (List ℕ) → Option (List ℕ) → Type 0
Prints Runs Done (Some report) old new = (lines : List ℕ) × Runs report lines × Appends old new lines
Prints Runs Made (Some report) old new = (lines : List ℕ) × Runs report lines × Appends old new lines
Prints Runs WriteFault (Some report) old new = (lines : List ℕ) × Runs report lines × AppendsFront old new lines
Prints Runs Done None old new = ⊥
Prints Runs Made None old new = ⊥
Prints Runs WriteFault None old new = ⊥
Prints Runs status None old new = Keeps old new
Prints Runs status (Some report) old new = ⊥

-- Why a status comes where a file is read: by the bytes held under its name, and by whether the fault count of the
-- shelf or of out rose.
abbrev pub FileCause : Status → Option (List ℕ) → Type 0 → Type 0 → Type 0
FileCause Done held ReadsFailed WritesFailed = Unit {0}
FileCause Made held ReadsFailed WritesFailed = ⊥
FileCause Usage held ReadsFailed WritesFailed = ⊥
FileCause ReadFault held ReadsFailed WritesFailed = ReadsFailed
FileCause (Refused TooLong) held ReadsFailed WritesFailed = IfSome held (λ bytes. MOST_JOB_BYTES < length bytes)
FileCause (Refused (Job fault)) held ReadsFailed WritesFailed = IsRefused held fault
FileCause WriteFault held ReadsFailed WritesFailed = WritesFailed
FileCause Memory held ReadsFailed WritesFailed = Unit {0}

-- why a status comes where a job is generated
abbrev pub MadeCause : Status → Type 0 → Type 0
MadeCause Made WritesFailed = Unit {0}
MadeCause WriteFault WritesFailed = WritesFailed
MadeCause Memory WritesFailed = Unit {0}
MadeCause status WritesFailed = ⊥

-- the status is `wanted`, or memory ran out
abbrev pub IsUnlessMemory : Status → Status → Type 0
IsUnlessMemory status wanted = (status ≡ wanted) ⊎ (status ≡ Memory)

-- Which status comes where the bytes of the file are known and no read fails, and for an accepted job no write: the one
-- that the bytes call for, unless memory runs out.
pub record FileCompletes (status : Status) (held : Option (List ℕ)) (ReadsFailed WritesFailed : Type 0) : Type 0 where
  pub too_long : (bytes : List ℕ) → held ≡ Some bytes → ¬ ReadsFailed
      → MOST_JOB_BYTES < length bytes → IsUnlessMemory status (Refused TooLong)
  pub refused : (bytes : List ℕ) (fault : JobFault) → held ≡ Some bytes → ¬ ReadsFailed
      → length bytes ≤ MOST_JOB_BYTES → IsFaultOf bytes fault → IsUnlessMemory status (Refused (Job fault))
  pub accepted : (bytes : List ℕ) (job : JobValue) → held ≡ Some bytes → ¬ ReadsFailed → ¬ WritesFailed
      → length bytes ≤ MOST_JOB_BYTES → IsJobOf bytes job → IsUnlessMemory status Done

-- a write fault comes only where the lines of the report are longer than the room that out has left
abbrev pub FailsPast : (Report → List ℕ → Type 0) → Status → Option Report → ℕ → Type 0
FailsPast Runs WriteFault (Some report) room = (lines : List ℕ) × Runs report lines × (room < length lines)
FailsPast Runs status report room = Unit {0}

-- the text of the report, if there is one, fits the room
abbrev pub TextFits : JobValue → Option Report → ℕ → Type 0
TextFits job None room = Unit {0}
TextFits job (Some report) room = length (report_text job.names report) ≤ room

-- Where the shelf never fails and holds an accepted job, and the text of the report fits the room that out has left,
-- the run is done, unless memory runs out.
abbrev pub IsFileAssured : Status → Option Report → Option (List ℕ) → Bool → ℕ → Type 0
IsFileAssured status report held never_fails room =
    (bytes : List ℕ) (job : JobValue) → held ≡ Some bytes → length bytes ≤ MOST_JOB_BYTES → IsJobOf bytes job
    → IsTrue never_fails → TextFits job report room → IsUnlessMemory status Done

-- the bytes held are known, at most `MOST_JOB_BYTES`, and a text of a job
pub record HoldsJob (held : Option (List ℕ)) : Type 0 where
  pub bytes : List ℕ
  pub job : JobValue
  pub told : held ≡ Some bytes
  pub short : length bytes ≤ MOST_JOB_BYTES
  pub accepted : IsJobOf bytes job
