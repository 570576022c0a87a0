-- Which status comes: consequences of its cause and of what was printed.
use Rattle.std.proofs.Common.{◌≡◌, ℕ, ◌<◌, ◌≤◌, List, length, Bool, Option, Some, None, IsSome, IfSome, inl, inr, refl, ap, subst, ◌∙◌, arith}
use Rattle.std.specs.Prelude.{IsTrue}
use Rattle.std.specs.Option.{ForSome}
use Rattle.program_io.specs.Reading.{WasRead}
use Rattle.sp_order.specs.Depth.{depth_of}
use Rattle.sp_order.specs.Jobs.{JobValue}
use Rattle.job_lang.specs.Language.{IsJobOf, IsFaultOf}
use Rattle.job_syntax.specs.declared.fault.JobFault.{JobFault}
use Rattle.jobview.specs.Words.{Asked}
use Rattle.jobview.specs.Outcomes.{Shows, IsShown, Prints, HasFault, HasDeepJob, IsTooDeep, HasCause, IsUnlessMemory, Completes, IsAssured}
use Rattle.jobview.specs.Code.{FailsPast}
use Rattle.jobview.specs.declared.words.Form.{Form}
use Rattle.jobview.specs.declared.words.Form.TheVariants.{Rows, Text}
use Rattle.jobview.specs.declared.status.ViewRefusal.TheVariants.{TooLong, Job, TooDeep}
use Rattle.jobview.specs.declared.status.ViewStatus.{ViewStatus}
use Rattle.jobview.specs.declared.status.ViewStatus.TheVariants as status

-- what the laws state of texts, jobs and what is shown of them
pub record Laws : Type 0 where
  pub one_job : (text : List ℕ) (job job' : JobValue) → IsJobOf text job → IsJobOf text job' → job ≡ job'
  pub one_fault : (text : List ℕ) (fault fault' : JobFault) → IsFaultOf text fault → IsFaultOf text fault' → fault ≡ fault'
  pub not_both : (text : List ℕ) (job : JobValue) (fault : JobFault) → IsJobOf text job → IsFaultOf text fault → ⊥
  pub one_view : (form : Form) (bytes shown shown' : List ℕ) → Shows form bytes shown → Shows form bytes shown' → shown ≡ shown'

-- where the bytes held are known, they are the bytes that were read
same_bytes : (held : Option (List ℕ)) (told bytes : List ℕ) → WasRead 1048576 held bytes → held ≡ Some told → bytes ≡ told
same_bytes None told bytes read is = cc
same_bytes (Some xs) told bytes read is = let same : xs ≡ told = cc in read.whole ∙ same

-- bytes that were read to the end are not too many
read_short : (held : Option (List ℕ)) (told bytes : List ℕ) → WasRead 1048576 held bytes → held ≡ Some told → 1048576 < length told → ⊥
read_short held told bytes read is long = omega (arith, read.short, long, ap length (same_bytes held told bytes read is))

-- known bytes within the limit are not too many
held_short : (held : Option (List ℕ)) (told : List ℕ) → held ≡ Some told → IfSome held (λ bytes. 1048576 < length bytes) → length told ≤ 1048576 → ⊥
held_short None told is long short = cc
held_short (Some xs) told is long short = let same : xs ≡ told = cc in omega (arith, ap length same, long, short)

some_held : (held : Option (List ℕ)) (told : List ℕ) → held ≡ Some told → IsSome held
some_held held told is = rw is refl

-- what was read is what is held

shown_held : (form : Form) (held : Option (List ℕ)) (told shown : List ℕ) → IsShown form held shown → held ≡ Some told → Shows form told shown
shown_held form held told shown is known = subst (λ bytes. Shows form bytes shown) (same_bytes held told is.bytes is.read known) is.shows

fault_held : (held : Option (List ℕ)) (told : List ℕ) (fault : JobFault) → HasFault held fault → held ≡ Some told → IsFaultOf told fault
fault_held held told fault has known = subst (λ bytes. IsFaultOf bytes fault) (same_bytes held told has.bytes has.read known) has.why

deep_read : (form : Form) (held : Option (List ℕ)) → IsTooDeep form held → (bytes : List ℕ) × WasRead 1048576 held bytes
deep_read Rows held why = absurd why
deep_read Text held why = (why.0, why.1)

deep_held : (form : Form) (held : Option (List ℕ)) (told : List ℕ) → IsTooDeep form held → held ≡ Some told → HasDeepJob told
deep_held Rows held told why known = absurd why
deep_held Text held told why known = subst HasDeepJob (same_bytes held told why.0 why.1 known) why.2

-- what is shown is of a job
job_shown : (form : Form) (bytes shown : List ℕ) → Shows form bytes shown → (job : JobValue) × IsJobOf bytes job
job_shown Rows bytes shown is = (is.0, is.1.is)
job_shown Text bytes shown is = (is.job, is.accepted)

module _ (laws : Laws) where
  -- a text with a fault shows nothing
  no_view : (form : Form) (bytes shown : List ℕ) (fault : JobFault) → Shows form bytes shown → IsFaultOf bytes fault → ⊥
  no_view form bytes shown fault is has = let job = job_shown form bytes shown is in laws.not_both bytes job.0 fault job.1 has

  -- nor does a job that is too deep show a canonical text
  too_deep_to_show : (form : Form) (bytes shown : List ℕ) → form ≡ Text → HasDeepJob bytes → Shows form bytes shown → ⊥
  too_deep_to_show Rows bytes shown same deep is = cc
  too_deep_to_show Text bytes shown same deep is =
      let one = ap (λ (job : JobValue). depth_of job.shape) (laws.one_job bytes is.job deep.job is.accepted deep.accepted) in
      omega (arith, one, is.deep, deep.deep)

  deep_form : (form : Form) (held : Option (List ℕ)) → IsTooDeep form held → form ≡ Text
  deep_form Rows held why = absurd why
  deep_form Text held why = refl

  module _ (form : Form) (held : Option (List ℕ)) (R W : Type 0) (old new : Option (List ℕ)) where
    too_long : (ended : ViewStatus) → HasCause form held ended R W → Prints (IsShown form held) ended old new
        → (bytes : List ℕ) → held ≡ Some bytes → (ended ≡ status.ReadFault → ⊥) → 1048576 < length bytes → IsUnlessMemory ended (status.Refused TooLong)
    too_long status.Done why line bytes told reads long = absurd (read_short held bytes line.1.bytes line.1.read told long)
    too_long status.Usage why line bytes told reads long = absurd why
    too_long status.ReadFault why line bytes told reads long = absurd (reads refl)
    too_long (status.Refused TooLong) why line bytes told reads long = inl refl
    too_long (status.Refused (Job fault)) why line bytes told reads long = absurd (read_short held bytes why.bytes why.read told long)
    too_long (status.Refused TooDeep) why line bytes told reads long = let read = deep_read form held why in absurd (read_short held bytes read.0 read.1 told long)
    too_long status.WriteFault why line bytes told reads long = absurd (read_short held bytes line.1.bytes line.1.read told long)
    too_long status.Memory why line bytes told reads long = inr refl

    bad_job : (ended : ViewStatus) → HasCause form held ended R W → Prints (IsShown form held) ended old new
        → (bytes : List ℕ) (fault : JobFault) → held ≡ Some bytes → (ended ≡ status.ReadFault → ⊥) → length bytes ≤ 1048576 → IsFaultOf bytes fault
        → IsUnlessMemory ended (status.Refused (Job fault))
    bad_job status.Done why line bytes fault told reads short has = absurd (no_view form bytes line.0 fault (shown_held form held bytes line.0 line.1 told) has)
    bad_job status.Usage why line bytes fault told reads short has = absurd why
    bad_job status.ReadFault why line bytes fault told reads short has = absurd (reads refl)
    bad_job (status.Refused TooLong) why line bytes fault told reads short has = absurd (held_short held bytes told why short)
    bad_job (status.Refused (Job found)) why line bytes fault told reads short has =
        inl (ap (λ (f : JobFault). status.Refused (Job f)) (laws.one_fault bytes found fault (fault_held held bytes found why told) has))
    bad_job (status.Refused TooDeep) why line bytes fault told reads short has =
        let deep = deep_held form held bytes why told in absurd (laws.not_both bytes deep.job fault deep.accepted has)
    bad_job status.WriteFault why line bytes fault told reads short has = absurd (no_view form bytes line.0 fault (shown_held form held bytes line.0 line.1 told) has)
    bad_job status.Memory why line bytes fault told reads short has = inr refl

    too_deep : (ended : ViewStatus) → HasCause form held ended R W → Prints (IsShown form held) ended old new
        → (bytes : List ℕ) → form ≡ Text → held ≡ Some bytes → (ended ≡ status.ReadFault → ⊥) → length bytes ≤ 1048576 → HasDeepJob bytes
        → IsUnlessMemory ended (status.Refused TooDeep)
    too_deep status.Done why line bytes same told reads short deep = absurd (too_deep_to_show form bytes line.0 same deep (shown_held form held bytes line.0 line.1 told))
    too_deep status.Usage why line bytes same told reads short deep = absurd why
    too_deep status.ReadFault why line bytes same told reads short deep = absurd (reads refl)
    too_deep (status.Refused TooLong) why line bytes same told reads short deep = absurd (held_short held bytes told why short)
    too_deep (status.Refused (Job fault)) why line bytes same told reads short deep = absurd (laws.not_both bytes deep.job fault deep.accepted (fault_held held bytes fault why told))
    too_deep (status.Refused TooDeep) why line bytes same told reads short deep = inl refl
    too_deep status.WriteFault why line bytes same told reads short deep = absurd (too_deep_to_show form bytes line.0 same deep (shown_held form held bytes line.0 line.1 told))
    too_deep status.Memory why line bytes same told reads short deep = inr refl

    shown_so : (ended : ViewStatus) → HasCause form held ended R W → (bytes shown : List ℕ) → held ≡ Some bytes
        → (ended ≡ status.ReadFault → ⊥) → (ended ≡ status.WriteFault → ⊥) → length bytes ≤ 1048576 → Shows form bytes shown → IsUnlessMemory ended status.Done
    shown_so status.Done why bytes shown told reads writes short is = inl refl
    shown_so status.Usage why bytes shown told reads writes short is = absurd why
    shown_so status.ReadFault why bytes shown told reads writes short is = absurd (reads refl)
    shown_so (status.Refused TooLong) why bytes shown told reads writes short is = absurd (held_short held bytes told why short)
    shown_so (status.Refused (Job fault)) why bytes shown told reads writes short is = absurd (no_view form bytes shown fault is (fault_held held bytes fault why told))
    shown_so (status.Refused TooDeep) why bytes shown told reads writes short is =
        absurd (too_deep_to_show form bytes shown (deep_form form held why) (deep_held form held bytes why told) is)
    shown_so status.WriteFault why bytes shown told reads writes short is = absurd (writes refl)
    shown_so status.Memory why bytes shown told reads writes short is = inr refl

    -- no status is a read fault where no read failed, nor a write fault where no write did

    calm_reads : (ended : ViewStatus) → HasCause form held ended R W → ¬ R → ended ≡ status.ReadFault → ⊥
    calm_reads ended why calm read = calm (subst (λ (s : ViewStatus). HasCause form held s R W) read why)

    calm_writes : (ended : ViewStatus) → HasCause form held ended R W → ¬ W → ended ≡ status.WriteFault → ⊥
    calm_writes ended why calm write = calm (subst (λ (s : ViewStatus). HasCause form held s R W) write why)

    pub completes : (ended : ViewStatus) → HasCause form held ended R W → Prints (IsShown form held) ended old new → Completes form held ended R W
    completes ended why line = record {
      too_long = λ bytes told calm long. too_long ended why line bytes told (calm_reads ended why calm) long;
      bad_job = λ bytes fault told calm short has. bad_job ended why line bytes fault told (calm_reads ended why calm) short has;
      too_deep = λ bytes same told calm short deep. too_deep ended why line bytes same told (calm_reads ended why calm) short deep;
      shown = λ bytes shown told calm calm' short is. shown_so ended why bytes shown told (calm_reads ended why calm) (calm_writes ended why calm') short is;
    }

    -- no write fails of what is within the room
    fits : (bytes shown : List ℕ) (room : ℕ) → held ≡ Some bytes → Shows form bytes shown → length shown ≤ room → FailsPast (IsShown form held) status.WriteFault room → ⊥
    fits bytes shown room told is within past =
        let same = laws.one_view form bytes past.0 shown (shown_held form held bytes past.0 past.1 told) is in
        omega (arith, within, past.2, ap length same)

    pub assured : (ended : ViewStatus) (never_fails : Bool) (room : ℕ) → HasCause form held ended R W → Prints (IsShown form held) ended old new
        → (IsTrue never_fails → IsSome held → ended ≡ status.ReadFault → ⊥) → FailsPast (IsShown form held) ended room → IsAssured form held ended never_fails room
    assured ended never_fails room why line reads past = record {
      too_long = λ bytes told never long. too_long ended why line bytes told (reads never (some_held held bytes told)) long;
      bad_job = λ bytes fault told never short has. bad_job ended why line bytes fault told (reads never (some_held held bytes told)) short has;
      too_deep = λ bytes same told never short deep. too_deep ended why line bytes same told (reads never (some_held held bytes told)) short deep;
      shown = λ bytes shown told never short is within. shown_so ended why bytes shown told (reads never (some_held held bytes told))
          (λ write. fits bytes shown room told is within (subst (λ (s : ViewStatus). FailsPast (IsShown form held) s room) write past)) short is;
    }

-- what holds of what the words ask for holds of all that they ask for
pub asked : (words : Option Asked) (one : Asked) (Owed : Asked → Type 0) → Some one ≡ words → Owed one → ForSome words Owed
asked words one Owed is owed other is' = let same : one ≡ other = cc in subst Owed same owed
