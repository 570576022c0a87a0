-- Which verdict comes: consequences of its cause and of what was printed.
use Rattle.std.proofs.Common.{◌≡◌, ℕ, ◌<◌, ◌≤◌, List, length, Bool, Option, Some, None, IsSome, IfSome, inl, inr, refl, ap, subst, ◌∙◌, arith}
use Rattle.std.specs.Prelude.{IsTrue}
use Rattle.std.specs.Option.{ForSome}
use Rattle.program_io.specs.Reading.{WasRead}
use Rattle.sp_order.specs.Jobs.{JobValue}
use Rattle.job_lang.specs.Language.{IsJobOf, IsFaultOf}
use Rattle.job_syntax.specs.declared.fault.JobFault.{JobFault}
use Rattle.report_check.specs.Flaws.{IsFlawOf}
use Rattle.report_check.specs.declared.flaw.Flaw.{Flaw}
use Rattle.batchcheck.specs.Words.{Files}
use Rattle.batchcheck.specs.Lines.{verdict_text}
use Rattle.batchcheck.specs.Outcomes.{HasJob, HasFault, IsJudged, Prints, HasCause, IsUnlessMemory, verdict_on, Holds, HasLawfulReport, Completes, IsAssured}
use Rattle.batchcheck.specs.Code.{AreHeld, HoldsRefusedJob, IsRefusedJob, FailsPast}
use Rattle.batchcheck.specs.declared.verdict.CheckRefusal.TheVariants.{JobTooLong, ReportTooLong, Job}
use Rattle.batchcheck.specs.declared.verdict.Verdict.{Verdict}
use Rattle.batchcheck.specs.declared.verdict.Verdict.TheVariants as verdict

-- what the laws state of texts, jobs and flaws
pub record Laws : Type 0 where
  pub one_job : (text : List ℕ) (job job' : JobValue) → IsJobOf text job → IsJobOf text job' → job ≡ job'
  pub one_fault : (text : List ℕ) (fault fault' : JobFault) → IsFaultOf text fault → IsFaultOf text fault' → fault ≡ fault'
  pub not_both : (text : List ℕ) (job : JobValue) (fault : JobFault) → IsJobOf text job → IsFaultOf text fault → ⊥
  pub one_flaw : (bytes text : List ℕ) (job : JobValue) (flaw flaw' : Option Flaw) → IsJobOf bytes job → IsFlawOf job text flaw → IsFlawOf job text flaw' → flaw ≡ flaw'
  pub no_flaw : (bytes text : List ℕ) (job : JobValue) → IsJobOf bytes job → HasLawfulReport job text → IsFlawOf job text None

-- where the bytes held are known, they are the bytes that were read
same_bytes : (most : ℕ) (held : Option (List ℕ)) (told bytes : List ℕ) → WasRead most held bytes → held ≡ Some told → bytes ≡ told
same_bytes most None told bytes read is = cc
same_bytes most (Some xs) told bytes read is = let same : xs ≡ told = cc in read.whole ∙ same

-- bytes that were read to the end are not too many
read_short : (most : ℕ) (held : Option (List ℕ)) (told bytes : List ℕ) → WasRead most held bytes → held ≡ Some told → most < length told → ⊥
read_short most held told bytes read is long = omega (arith, read.short, long, ap length (same_bytes most held told bytes read is))

-- known bytes within the limit are not too many
held_short : (most : ℕ) (held : Option (List ℕ)) (told : List ℕ) → held ≡ Some told → IfSome held (λ bytes. most < length bytes) → length told ≤ most → ⊥
held_short most None told is long short = cc
held_short most (Some xs) told is long short = let same : xs ≡ told = cc in omega (arith, ap length same, long, short)

some_held : (held : Option (List ℕ)) (told : List ℕ) → held ≡ Some told → IsSome held
some_held held told is = rw is refl

-- a job that was read is one of the bytes held
job_held : (held : Option (List ℕ)) (told : List ℕ) (job : JobValue) → (has : HasJob held job) → held ≡ Some told → IsJobOf told job
job_held held told job has is = subst (λ bytes. IsJobOf bytes job) (same_bytes 1048576 held told has.bytes has.read is) has.accepted

-- so is a fault
fault_held : (held : Option (List ℕ)) (told : List ℕ) (fault : JobFault) → (has : HasFault held fault) → held ≡ Some told → IsFaultOf told fault
fault_held held told fault has is = subst (λ bytes. IsFaultOf bytes fault) (same_bytes 1048576 held told has.bytes has.read is) has.why

-- bytes told of a file that are refused as a job
refused_held : (held : Option (List ℕ)) (told : List ℕ) → held ≡ Some told → IsRefusedJob told → HoldsRefusedJob held
refused_held held told is refused = rw is (refl, refused)

-- a job that was read is not refused
pub not_refused_job : ((text : List ℕ) (job : JobValue) (fault : JobFault) → IsJobOf text job → IsFaultOf text fault → ⊥)
    → (held : Option (List ℕ)) (job : JobValue) → HasJob held job → HoldsRefusedJob held → ⊥
not_refused_job apart None job has refused = cc
not_refused_job apart (Some bytes) job has (some, inl long) = omega (arith, has.read.short, long, ap length has.read.whole)
not_refused_job apart (Some bytes) job has (some, inr (fault, bad)) = apart bytes job fault (subst (λ text. IsJobOf text job) has.read.whole has.accepted) bad

module _ (laws : Laws) (files : Files) (held : List ℕ → Option (List ℕ)) where
  -- a text that was judged is the one held, and the job is
  judged_held : (job : JobValue) (text : List ℕ) (flaw : Option Flaw) → Holds files held job text → IsJudged files held flaw → IsFlawOf job text flaw
  judged_held job text flaw holds judged =
      let same_job = laws.one_job holds.bytes judged.job job (job_held (held files.job) holds.bytes judged.job judged.has_job holds.told) holds.accepted in
      let same_text = same_bytes 8388608 (held files.report) text judged.text judged.read holds.report_told in
      subst (λ t. IsFlawOf job t flaw) same_text (subst (λ j. IsFlawOf j judged.text flaw) same_job judged.judged)

  module _ (R W : Type 0) (old new : Option (List ℕ)) where
    -- where no job was read, the bytes held are no job; where one was, they are not too many
    job_too_long : (ended : Verdict) → HasCause files held ended R W → Prints (IsJudged files held) ended old new
        → (bytes : List ℕ) → held files.job ≡ Some bytes → (ended ≡ verdict.ReadFault → ⊥) → 1048576 < length bytes → IsUnlessMemory ended (verdict.Refused JobTooLong)
    job_too_long verdict.Lawful why line bytes told reads long = absurd (read_short 1048576 (held files.job) bytes line.0.has_job.bytes line.0.has_job.read told long)
    job_too_long (verdict.Flawed flaw) why line bytes told reads long = absurd (read_short 1048576 (held files.job) bytes line.0.has_job.bytes line.0.has_job.read told long)
    job_too_long verdict.Usage why line bytes told reads long = absurd why
    job_too_long verdict.ReadFault why line bytes told reads long = absurd (reads refl)
    job_too_long (verdict.Refused JobTooLong) why line bytes told reads long = inl refl
    job_too_long (verdict.Refused ReportTooLong) why line bytes told reads long = absurd (read_short 1048576 (held files.job) bytes why.0.1.bytes why.0.1.read told long)
    job_too_long (verdict.Refused (Job fault)) why line bytes told reads long = absurd (read_short 1048576 (held files.job) bytes why.bytes why.read told long)
    job_too_long verdict.WriteFault why line bytes told reads long = absurd (read_short 1048576 (held files.job) bytes line.1.has_job.bytes line.1.has_job.read told long)
    job_too_long verdict.Memory why line bytes told reads long = inr refl

    -- bytes with a fault are no job
    no_job : (bytes : List ℕ) (fault : JobFault) (job : JobValue) → held files.job ≡ Some bytes → IsFaultOf bytes fault → HasJob (held files.job) job → ⊥
    no_job bytes fault job told has read = laws.not_both bytes job fault (job_held (held files.job) bytes job read told) has

    bad_job : (ended : Verdict) → HasCause files held ended R W → Prints (IsJudged files held) ended old new
        → (bytes : List ℕ) (fault : JobFault) → held files.job ≡ Some bytes → (ended ≡ verdict.ReadFault → ⊥) → length bytes ≤ 1048576 → IsFaultOf bytes fault
        → IsUnlessMemory ended (verdict.Refused (Job fault))
    bad_job verdict.Lawful why line bytes fault told reads short has = absurd (no_job bytes fault line.0.job told has line.0.has_job)
    bad_job (verdict.Flawed flaw) why line bytes fault told reads short has = absurd (no_job bytes fault line.0.job told has line.0.has_job)
    bad_job verdict.Usage why line bytes fault told reads short has = absurd why
    bad_job verdict.ReadFault why line bytes fault told reads short has = absurd (reads refl)
    bad_job (verdict.Refused JobTooLong) why line bytes fault told reads short has = absurd (held_short 1048576 (held files.job) bytes told why short)
    bad_job (verdict.Refused ReportTooLong) why line bytes fault told reads short has = absurd (no_job bytes fault why.0.0 told has why.0.1)
    bad_job (verdict.Refused (Job found)) why line bytes fault told reads short has =
        inl (ap (λ (f : JobFault). verdict.Refused (Job f)) (laws.one_fault bytes found fault (fault_held (held files.job) bytes found why told) has))
    bad_job verdict.WriteFault why line bytes fault told reads short has = absurd (no_job bytes fault line.1.job told has line.1.has_job)
    bad_job verdict.Memory why line bytes fault told reads short has = inr refl

    -- an accepted job is not refused
    not_refused : (job : JobValue) (text : List ℕ) (fault : JobFault) → Holds files held job text → HasFault (held files.job) fault → ⊥
    not_refused job text fault holds has = laws.not_both holds.bytes job fault holds.accepted (fault_held (held files.job) holds.bytes fault has holds.told)

    report_too_long : (ended : Verdict) → HasCause files held ended R W → Prints (IsJudged files held) ended old new
        → (job : JobValue) (text : List ℕ) → Holds files held job text → ¬ R → 8388608 < length text → IsUnlessMemory ended (verdict.Refused ReportTooLong)
    report_too_long verdict.Lawful why line job text holds calm long = absurd (read_short 8388608 (held files.report) text line.0.text line.0.read holds.report_told long)
    report_too_long (verdict.Flawed flaw) why line job text holds calm long = absurd (read_short 8388608 (held files.report) text line.0.text line.0.read holds.report_told long)
    report_too_long verdict.Usage why line job text holds calm long = absurd why
    report_too_long verdict.ReadFault why line job text holds calm long = absurd (calm why)
    report_too_long (verdict.Refused JobTooLong) why line job text holds calm long = absurd (held_short 1048576 (held files.job) holds.bytes holds.told why holds.short)
    report_too_long (verdict.Refused ReportTooLong) why line job text holds calm long = inl refl
    report_too_long (verdict.Refused (Job fault)) why line job text holds calm long = absurd (not_refused job text fault holds why)
    report_too_long verdict.WriteFault why line job text holds calm long = absurd (read_short 8388608 (held files.report) text line.1.text line.1.read holds.report_told long)
    report_too_long verdict.Memory why line job text holds calm long = inr refl

    -- a text with a flaw, or without one, is judged so, where no stream fails
    judged_so : (ended : Verdict) → HasCause files held ended R W → Prints (IsJudged files held) ended old new
        → (job : JobValue) (text : List ℕ) (flaw : Option Flaw) → Holds files held job text → length text ≤ 8388608 → IsFlawOf job text flaw
        → (ended ≡ verdict.ReadFault → ⊥) → (ended ≡ verdict.WriteFault → ⊥) → IsUnlessMemory ended (verdict_on flaw)
    judged_so verdict.Lawful why line job text flaw holds short is reads writes =
        inl (ap verdict_on (laws.one_flaw holds.bytes text job None flaw holds.accepted (judged_held job text None holds line.0) is))
    judged_so (verdict.Flawed found) why line job text flaw holds short is reads writes =
        inl (ap verdict_on (laws.one_flaw holds.bytes text job (Some found) flaw holds.accepted (judged_held job text (Some found) holds line.0) is))
    judged_so verdict.Usage why line job text flaw holds short is reads writes = absurd why
    judged_so verdict.ReadFault why line job text flaw holds short is reads writes = absurd (reads refl)
    judged_so (verdict.Refused JobTooLong) why line job text flaw holds short is reads writes = absurd (held_short 1048576 (held files.job) holds.bytes holds.told why holds.short)
    judged_so (verdict.Refused ReportTooLong) why line job text flaw holds short is reads writes = absurd (held_short 8388608 (held files.report) text holds.report_told why.1 short)
    judged_so (verdict.Refused (Job fault)) why line job text flaw holds short is reads writes = absurd (not_refused job text fault holds why)
    judged_so verdict.WriteFault why line job text flaw holds short is reads writes = absurd (writes refl)
    judged_so verdict.Memory why line job text flaw holds short is reads writes = inr refl

    -- no verdict is a read fault where no read failed
    calm_reads : (ended : Verdict) → HasCause files held ended R W → ¬ R → ended ≡ verdict.ReadFault → ⊥
    calm_reads ended why calm read = calm (subst (λ (v : Verdict). HasCause files held v R W) read why)

    calm_judged : (ended : Verdict) → HasCause files held ended R W → Prints (IsJudged files held) ended old new
        → (job : JobValue) (text : List ℕ) (flaw : Option Flaw) → Holds files held job text → length text ≤ 8388608 → IsFlawOf job text flaw
        → ¬ R → ¬ W → IsUnlessMemory ended (verdict_on flaw)
    calm_judged ended why line job text flaw holds short is calm calm' =
        judged_so ended why line job text flaw holds short is
        (calm_reads ended why calm) (λ write. calm' (subst (λ (v : Verdict). HasCause files held v R W) write why))

    pub completes : (ended : Verdict) → HasCause files held ended R W → Prints (IsJudged files held) ended old new → Completes files held ended R W
    completes ended why line = record {
      job_too_long = λ bytes told calm long. job_too_long ended why line bytes told (calm_reads ended why calm) long;
      bad_job = λ bytes fault told calm short has. bad_job ended why line bytes fault told (calm_reads ended why calm) short has;
      report_too_long = λ job text holds calm long. report_too_long ended why line job text holds calm long;
      lawful = λ job text holds calm calm' short has. calm_judged ended why line job text None holds short (laws.no_flaw holds.bytes text job holds.accepted has) calm calm';
      flawed = λ job text flaw holds calm calm' short is. calm_judged ended why line job text (Some flaw) holds short is calm calm';
    }

    -- no write fails of words that are within the room
    fits : (job : JobValue) (text : List ℕ) (flaw : Option Flaw) (room : ℕ) → Holds files held job text → IsFlawOf job text flaw → length (verdict_text flaw) ≤ room
        → FailsPast (IsJudged files held) verdict.WriteFault room → ⊥
    fits job text flaw room holds is within past =
        let same = laws.one_flaw holds.bytes text job past.0 flaw holds.accepted (judged_held job text past.0 holds past.1) is in
        omega (arith, within, past.2, ap (λ f. length (verdict_text f)) same)

    pub assured : (ended : Verdict) (never_fails : Bool) (room : ℕ) → HasCause files held ended R W → Prints (IsJudged files held) ended old new
        → (IsTrue never_fails → AreHeld files held → ended ≡ verdict.ReadFault → ⊥)
        → FailsPast (IsJudged files held) ended room → IsAssured files held ended never_fails room
    assured ended never_fails room why line reads past = record {
      job_too_long = λ bytes told never long. job_too_long ended why line bytes told (reads never (inl (refused_held (held files.job) bytes told (inl long)))) long;
      bad_job = λ bytes fault told never short has. bad_job ended why line bytes fault told (reads never (inl (refused_held (held files.job) bytes told (inr (fault, has))))) short has;
      judged = λ job text flaw holds never short is within. judged_so ended why line job text flaw holds short is
          (reads never (inr (some_held (held files.job) holds.bytes holds.told, some_held (held files.report) text holds.report_told)))
          (λ write. fits job text flaw room holds is within (subst (λ (v : Verdict). FailsPast (IsJudged files held) v room) write past));
    }

-- what holds of the files that the words name holds of all files that they name
pub named : (words : Option Files) (files : Files) (Owed : Files → Type 0) → Some files ≡ words → Owed files → ForSome words Owed
named words files Owed is owed other is' = let same : files ≡ other = cc in subst Owed same owed
