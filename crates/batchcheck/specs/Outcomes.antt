-- What each verdict says: one definition for each concern, with a line for each verdict. Below, `held` gives the bytes
-- that the shelf holds under each name, where they are known.
use Rattle.std.specs.Prelude.{◌≡◌, ℕ, ◌<◌, ◌≤◌, ◌⊎◌, List, length, Bool, IsTrue, Option, None, Some, IfSome}
use Rattle.std.specs.Io.KnownBytes.{Appends, Keeps}
use Rattle.bt_io.specs.Bytes.{AppendsFront}
use Rattle.program_io.specs.Reading.{WasRead}
use Rattle.sp_order.specs.Jobs.{JobValue}
use Rattle.batch_history.specs.Lawful.{Lawful}
use Rattle.batch_history.specs.Text.{report_text}
use Rattle.batch_history.specs.declared.report.Report.{Report}
use Rattle.job_lang.specs.Language.{IsJobOf, IsFaultOf}
use Rattle.job_syntax.specs.declared.fault.JobFault.{JobFault}
use Rattle.report_check.specs.Flaws.{IsFlawOf}
use Rattle.report_check.specs.declared.flaw.Flaw.{Flaw}
use Rattle.batchcheck.specs.Words.{Files}
use Rattle.batchcheck.specs.Lines.{verdict_text}
use Rattle.batchcheck.specs.declared.verdict.CheckRefusal.{CheckRefusal}
use Rattle.batchcheck.specs.declared.verdict.CheckRefusal.TheVariants.{JobTooLong, ReportTooLong, Job}
use Rattle.batchcheck.specs.declared.verdict.Verdict.{Verdict}
use Rattle.batchcheck.specs.declared.verdict.Verdict.TheVariants as verdict
use Rattle.limits.specs.declared.TheConstants.{MOST_JOB_BYTES, MOST_REPORT_BYTES, MOST_WORKERS}

-- the bytes that were read are a text of this job
pub record HasJob (held : Option (List ℕ)) (job : JobValue) : Type 0 where
  pub bytes : List ℕ
  pub read : WasRead MOST_JOB_BYTES held bytes
  pub accepted : IsJobOf bytes job

-- the bytes that were read have this fault
pub record HasFault (held : Option (List ℕ)) (fault : JobFault) : Type 0 where
  pub bytes : List ℕ
  pub read : WasRead MOST_JOB_BYTES held bytes
  pub why : IsFaultOf bytes fault

-- Both files were read: one is a text of a job, and the other has this flaw as a report of the job. Without a flaw it is
-- the text of a lawful report of the job, which has 1 to `MOST_WORKERS` workers.
pub record IsJudged (files : Files) (held : List ℕ → Option (List ℕ)) (flaw : Option Flaw) : Type 0 where
  pub job : JobValue
  pub has_job : HasJob (held files.job) job
  pub text : List ℕ
  pub read : WasRead MOST_REPORT_BYTES (held files.report) text
  pub judged : IsFlawOf job text flaw

-- the same for the files that the words name; words that name none have no flaw to be told
abbrev pub Judges : Option Files → (List ℕ → Option (List ℕ)) → Option Flaw → Type 0
Judges None held = λ flaw. ⊥
Judges (Some files) held = IsJudged files held

-- What out took: the words of the flaw, or that there is none; at a write fault a front of them, for the flaw that the
-- files have; otherwise nothing.
abbrev pub Prints : (Option Flaw → Type 0) → Verdict → Option (List ℕ) → Option (List ℕ) → Type 0
Prints Judged verdict.Lawful old new = Judged None × Appends old new (verdict_text None)
Prints Judged (verdict.Flawed flaw) old new = Judged (Some flaw) × Appends old new (verdict_text (Some flaw))
Prints Judged verdict.WriteFault old new = (flaw : Option Flaw) × Judged flaw × AppendsFront old new (verdict_text flaw)
Prints Judged _ old new = Keeps old new

-- why the files are refused; the report is read, and may be too long, only where there is a job
abbrev pub Refuses : Files → (List ℕ → Option (List ℕ)) → CheckRefusal → Type 0
Refuses files held JobTooLong = IfSome (held files.job) (λ bytes. MOST_JOB_BYTES < length bytes)
Refuses files held ReportTooLong = ((job : JobValue) × HasJob (held files.job) job) × IfSome (held files.report) (λ text. MOST_REPORT_BYTES < length text)
Refuses files held (Job fault) = HasFault (held files.job) fault

-- Why a verdict comes where there are files: by the bytes held, and by whether the fault count of the shelf or of out
-- rose.
abbrev pub HasCause : Files → (List ℕ → Option (List ℕ)) → Verdict → Type 0 → Type 0 → Type 0
HasCause files held verdict.Lawful ReadsFailed WritesFailed = Unit {0}
HasCause files held (verdict.Flawed flaw) ReadsFailed WritesFailed = Unit {0}
HasCause files held verdict.Usage ReadsFailed WritesFailed = ⊥
HasCause files held verdict.ReadFault ReadsFailed WritesFailed = ReadsFailed
HasCause files held (verdict.Refused refusal) ReadsFailed WritesFailed = Refuses files held refusal
HasCause files held verdict.WriteFault ReadsFailed WritesFailed = WritesFailed
HasCause files held verdict.Memory ReadsFailed WritesFailed = Unit {0}

-- the verdict is `wanted`, or memory ran out
abbrev pub IsUnlessMemory : Verdict → Verdict → Type 0
IsUnlessMemory ended wanted = (ended ≡ wanted) ⊎ (ended ≡ verdict.Memory)

-- the verdict on a text with this flaw, or without one
abbrev pub verdict_on : Option Flaw → Verdict
verdict_on None = verdict.Lawful
verdict_on (Some flaw) = verdict.Flawed flaw

-- the bytes held for both files are known, and those for the job are a text of this job and not too many
pub record Holds (files : Files) (held : List ℕ → Option (List ℕ)) (job : JobValue) (text : List ℕ) : Type 0 where
  pub bytes : List ℕ
  pub told : held files.job ≡ Some bytes
  pub short : length bytes ≤ MOST_JOB_BYTES
  pub accepted : IsJobOf bytes job
  pub report_told : held files.report ≡ Some text

-- the text is that of a lawful report of the job, whose number of workers is its own and from 1 to `MOST_WORKERS`
pub record HasLawfulReport (job : JobValue) (text : List ℕ) : Type 0 where
  pub report : Report
  pub some : 1 ≤ report.workers
  pub few : report.workers ≤ MOST_WORKERS
  pub lawful : Lawful job report.workers report
  pub written : report_text job.names report ≡ text

-- Which verdict comes where the bytes of the files are known and no read fails, and for a text that is judged no write:
-- the one that the bytes call for, unless memory runs out.
pub record Completes (files : Files) (held : List ℕ → Option (List ℕ)) (ended : Verdict) (ReadsFailed WritesFailed : Type 0) : Type 0 where
  pub job_too_long : (bytes : List ℕ) → held files.job ≡ Some bytes → ¬ ReadsFailed
      → MOST_JOB_BYTES < length bytes → IsUnlessMemory ended (verdict.Refused JobTooLong)
  pub bad_job : (bytes : List ℕ) (fault : JobFault) → held files.job ≡ Some bytes → ¬ ReadsFailed
      → length bytes ≤ MOST_JOB_BYTES → IsFaultOf bytes fault → IsUnlessMemory ended (verdict.Refused (Job fault))
  pub report_too_long : (job : JobValue) (text : List ℕ) → Holds files held job text → ¬ ReadsFailed
      → MOST_REPORT_BYTES < length text → IsUnlessMemory ended (verdict.Refused ReportTooLong)
  pub lawful : (job : JobValue) (text : List ℕ) → Holds files held job text → ¬ ReadsFailed → ¬ WritesFailed
      → length text ≤ MOST_REPORT_BYTES → HasLawfulReport job text → IsUnlessMemory ended verdict.Lawful
  pub flawed : (job : JobValue) (text : List ℕ) (flaw : Flaw) → Holds files held job text → ¬ ReadsFailed → ¬ WritesFailed
      → length text ≤ MOST_REPORT_BYTES → IsFlawOf job text (Some flaw) → IsUnlessMemory ended (verdict.Flawed flaw)

-- Where the shelf never fails, and what is printed of a flaw is within the room that out has left, the verdict is the one
-- that the bytes held call for, unless memory runs out. A job that is refused decides whatever is held of the report.
pub record IsAssured (files : Files) (held : List ℕ → Option (List ℕ)) (ended : Verdict) (never_fails : Bool) (room : ℕ) : Type 0 where
  pub job_too_long : (bytes : List ℕ) → held files.job ≡ Some bytes → IsTrue never_fails
      → MOST_JOB_BYTES < length bytes → IsUnlessMemory ended (verdict.Refused JobTooLong)
  pub bad_job : (bytes : List ℕ) (fault : JobFault) → held files.job ≡ Some bytes → IsTrue never_fails
      → length bytes ≤ MOST_JOB_BYTES → IsFaultOf bytes fault → IsUnlessMemory ended (verdict.Refused (Job fault))
  pub judged : (job : JobValue) (text : List ℕ) (flaw : Option Flaw) → Holds files held job text → IsTrue never_fails
      → length text ≤ MOST_REPORT_BYTES → IsFlawOf job text flaw → length (verdict_text flaw) ≤ room → IsUnlessMemory ended (verdict_on flaw)
