-- What each status says: one definition for each concern, with a line for each status. Below, `held` gives the bytes
-- that the shelf holds under a name, where they are known.
use Rattle.std.specs.Prelude.{◌≡◌, ℕ, ◌<◌, ◌≤◌, ◌⊎◌, List, length, Bool, IsTrue, Option, None, Some, IfSome}
use Rattle.std.specs.Io.KnownBytes.{Appends, Keeps}
use Rattle.bt_io.specs.Bytes.{AppendsFront}
use Rattle.program_io.specs.Reading.{WasRead}
use Rattle.sp_order.specs.Depth.{depth_of}
use Rattle.sp_order.specs.Jobs.{JobValue}
use Rattle.job_lang.specs.Language.{IsJobOf, IsFaultOf}
use Rattle.job_syntax.specs.declared.fault.JobFault.{JobFault}
use Rattle.job_writer.specs.Canonical.{canonical_text}
use Rattle.leaf_places.specs.Rows.{AreRowsOf}
use Rattle.jobview.specs.Words.{Asked}
use Rattle.jobview.specs.declared.words.Form.{Form}
use Rattle.jobview.specs.declared.words.Form.TheVariants.{Rows, Text}
use Rattle.jobview.specs.declared.status.ViewRefusal.{ViewRefusal}
use Rattle.jobview.specs.declared.status.ViewRefusal.TheVariants.{TooLong, Job, TooDeep}
use Rattle.jobview.specs.declared.status.ViewStatus.{ViewStatus}
use Rattle.jobview.specs.declared.status.ViewStatus.TheVariants as status
use Rattle.limits.specs.declared.TheConstants.{MOST_JOB_BYTES, MOST_OPEN_BLOCKS}

-- The text is one of a job that is at most `MOST_OPEN_BLOCKS` deep, and this is its canonical text.
pub record IsCanonicalOf (bytes shown : List ℕ) : Type 0 where
  pub job : JobValue
  pub accepted : IsJobOf bytes job
  pub deep : depth_of job.shape ≤ MOST_OPEN_BLOCKS
  pub are : shown ≡ canonical_text job

-- this is what the form shows of the text
abbrev pub Shows : Form → List ℕ → List ℕ → Type 0
Shows Rows bytes shown = (job : JobValue) × AreRowsOf bytes job shown
Shows Text bytes shown = IsCanonicalOf bytes shown

-- this is what the form shows of the text that was read
pub record IsShown (form : Form) (held : Option (List ℕ)) (shown : List ℕ) : Type 0 where
  pub bytes : List ℕ
  pub read : WasRead MOST_JOB_BYTES held bytes
  pub shows : Shows form bytes shown

-- the same for the file that the words name; of words that name none nothing is shown
abbrev pub Views : Option Asked → (List ℕ → Option (List ℕ)) → List ℕ → Type 0
Views None held = λ shown. ⊥
Views (Some asked) held = IsShown asked.form (held asked.file)

-- what out took: all that is shown; at a write fault a front of it; otherwise nothing
abbrev pub Prints : (List ℕ → Type 0) → ViewStatus → Option (List ℕ) → Option (List ℕ) → Type 0
Prints Shown status.Done old new = (shown : List ℕ) × Shown shown × Appends old new shown
Prints Shown status.WriteFault old new = (shown : List ℕ) × Shown shown × AppendsFront old new shown
Prints Shown _ old new = Keeps old new

-- the bytes that were read have this fault
pub record HasFault (held : Option (List ℕ)) (fault : JobFault) : Type 0 where
  pub bytes : List ℕ
  pub read : WasRead MOST_JOB_BYTES held bytes
  pub why : IsFaultOf bytes fault

-- the text is one of a job that is more than `MOST_OPEN_BLOCKS` deep
pub record HasDeepJob (bytes : List ℕ) : Type 0 where
  pub job : JobValue
  pub accepted : IsJobOf bytes job
  pub deep : MOST_OPEN_BLOCKS < depth_of job.shape

-- the canonical text was asked for, and that of the bytes that were read is too deep
abbrev pub IsTooDeep : Form → Option (List ℕ) → Type 0
IsTooDeep Rows held = ⊥
IsTooDeep Text held = (bytes : List ℕ) × WasRead MOST_JOB_BYTES held bytes × HasDeepJob bytes

-- why the file is refused
abbrev pub Refuses : Form → Option (List ℕ) → ViewRefusal → Type 0
Refuses form held TooLong = IfSome held (λ bytes. MOST_JOB_BYTES < length bytes)
Refuses form held (Job fault) = HasFault held fault
Refuses form held TooDeep = IsTooDeep form held

-- Why a status comes where there is a file: by the bytes held, and by whether the fault count of the shelf or of out
-- rose.
abbrev pub HasCause : Form → Option (List ℕ) → ViewStatus → Type 0 → Type 0 → Type 0
HasCause form held status.Done ReadsFailed WritesFailed = Unit {0}
HasCause form held status.Usage ReadsFailed WritesFailed = ⊥
HasCause form held status.ReadFault ReadsFailed WritesFailed = ReadsFailed
HasCause form held (status.Refused refusal) ReadsFailed WritesFailed = Refuses form held refusal
HasCause form held status.WriteFault ReadsFailed WritesFailed = WritesFailed
HasCause form held status.Memory ReadsFailed WritesFailed = Unit {0}

-- the status is `wanted`, or memory ran out
abbrev pub IsUnlessMemory : ViewStatus → ViewStatus → Type 0
IsUnlessMemory ended wanted = (ended ≡ wanted) ⊎ (ended ≡ status.Memory)

-- Which status comes where the bytes of the file are known and no read fails, and for what is shown no write: the one
-- that the bytes call for, unless memory runs out.
pub record Completes (form : Form) (held : Option (List ℕ)) (ended : ViewStatus) (ReadsFailed WritesFailed : Type 0) : Type 0 where
  pub too_long : (bytes : List ℕ) → held ≡ Some bytes → ¬ ReadsFailed
      → MOST_JOB_BYTES < length bytes → IsUnlessMemory ended (status.Refused TooLong)
  pub bad_job : (bytes : List ℕ) (fault : JobFault) → held ≡ Some bytes → ¬ ReadsFailed
      → length bytes ≤ MOST_JOB_BYTES → IsFaultOf bytes fault → IsUnlessMemory ended (status.Refused (Job fault))
  pub too_deep : (bytes : List ℕ) → form ≡ Text → held ≡ Some bytes → ¬ ReadsFailed
      → length bytes ≤ MOST_JOB_BYTES → HasDeepJob bytes → IsUnlessMemory ended (status.Refused TooDeep)
  pub shown : (bytes shown : List ℕ) → held ≡ Some bytes → ¬ ReadsFailed → ¬ WritesFailed
      → length bytes ≤ MOST_JOB_BYTES → Shows form bytes shown → IsUnlessMemory ended status.Done

-- Where the shelf never fails, and what is shown is within the room that out has left, the status is the one that the
-- bytes held call for, unless memory runs out.
pub record IsAssured (form : Form) (held : Option (List ℕ)) (ended : ViewStatus) (never_fails : Bool) (room : ℕ) : Type 0 where
  pub too_long : (bytes : List ℕ) → held ≡ Some bytes → IsTrue never_fails
      → MOST_JOB_BYTES < length bytes → IsUnlessMemory ended (status.Refused TooLong)
  pub bad_job : (bytes : List ℕ) (fault : JobFault) → held ≡ Some bytes → IsTrue never_fails
      → length bytes ≤ MOST_JOB_BYTES → IsFaultOf bytes fault → IsUnlessMemory ended (status.Refused (Job fault))
  pub too_deep : (bytes : List ℕ) → form ≡ Text → held ≡ Some bytes → IsTrue never_fails
      → length bytes ≤ MOST_JOB_BYTES → HasDeepJob bytes → IsUnlessMemory ended (status.Refused TooDeep)
  pub shown : (bytes shown : List ℕ) → held ≡ Some bytes → IsTrue never_fails
      → length bytes ≤ MOST_JOB_BYTES → Shows form bytes shown → length shown ≤ room → IsUnlessMemory ended status.Done
