-- What only the code and its proofs cite: the files of a check, when they are held, why one was not read, and the verdict
-- of a run by its end.
use Rattle.std.specs.Prelude.{ℕ, ◌<◌, ◌⊎◌, List, [], length, Option, IfSome, IsSome}
use Rattle.program_io.specs.declared.program.Stop.{Stop}
use Rattle.program_io.specs.declared.program.Stop.TheVariants as stop
use Rattle.program_io.specs.declared.program.End.{End}
use Rattle.program_io.specs.declared.program.End.TheVariants.{Done, Stopped, WriteFault}
use Rattle.job_lang.specs.Language.{IsFaultOf}
use Rattle.job_syntax.specs.declared.fault.JobFault.{JobFault}
use Rattle.report_check.specs.declared.flaw.Flaw.{Flaw}
use Rattle.batchcheck.specs.Words.{Files}
use Rattle.batchcheck.specs.Lines.{verdict_text, verdict_line}
use Rattle.batchcheck.specs.Outcomes.{HasFault}
use Rattle.batchcheck.specs.declared.words.Check.{Check}
use Rattle.batchcheck.specs.declared.verdict.CheckRefusal.{CheckRefusal}
use Rattle.batchcheck.specs.declared.verdict.CheckRefusal.TheVariants.{JobTooLong, ReportTooLong, Job}
use Rattle.batchcheck.specs.declared.verdict.Verdict.{Verdict}
use Rattle.batchcheck.specs.declared.verdict.Verdict.TheVariants as verdict
use Rattle.limits.specs.declared.TheConstants.{MOST_JOB_BYTES, MOST_REPORT_BYTES}

-- the files that a check names
abbrev pub files_in : Check → Files
files_in check = record { job = check.job.now; report = check.report.now }

-- why no job was read of a file with these bytes, if they are known
abbrev pub StopsJob : Stop CheckRefusal → Option (List ℕ) → Type 0 → Type 0
StopsJob stop.ReadFault held ReadsFailed = ReadsFailed
StopsJob (stop.Refused JobTooLong) held ReadsFailed = IfSome held (λ bytes. MOST_JOB_BYTES < length bytes)
StopsJob (stop.Refused ReportTooLong) held ReadsFailed = ⊥
StopsJob (stop.Refused (Job fault)) held ReadsFailed = HasFault held fault
StopsJob stop.Memory held ReadsFailed = Unit {0}

-- why no text of a report was read of a file with these bytes, if they are known
abbrev pub StopsReport : Stop CheckRefusal → Option (List ℕ) → Type 0 → Type 0
StopsReport stop.ReadFault held ReadsFailed = ReadsFailed
StopsReport (stop.Refused ReportTooLong) held ReadsFailed = IfSome held (λ text. MOST_REPORT_BYTES < length text)
StopsReport (stop.Refused _) held ReadsFailed = ⊥
StopsReport stop.Memory held ReadsFailed = Unit {0}

-- the bytes held for a job are refused: they are too many, or have a fault
abbrev pub IsRefusedJob : List ℕ → Type 0
IsRefusedJob bytes = (MOST_JOB_BYTES < length bytes) ⊎ ((fault : JobFault) × IsFaultOf bytes fault)

-- the bytes of a job are held, and refused
abbrev pub HoldsRefusedJob : Option (List ℕ) → Type 0
HoldsRefusedJob held = IsSome held × IfSome held IsRefusedJob

-- each file that a check reads is held: the job's, and the report's too unless the job is refused
abbrev pub AreHeld : Files → (List ℕ → Option (List ℕ)) → Type 0
AreHeld files held = HoldsRefusedJob (held files.job) ⊎ (IsSome (held files.job) × IsSome (held files.report))

-- the verdict of a run that stopped before it judged the text
abbrev pub stopped : Stop CheckRefusal → Verdict
stopped stop.ReadFault = verdict.ReadFault
stopped (stop.Refused refusal) = verdict.Refused refusal
stopped stop.Memory = verdict.Memory

-- the line on err of each end
abbrev pub end_line : End CheckRefusal → List ℕ
end_line Done = []
end_line (Stopped why) = verdict_line (stopped why)
end_line WriteFault = verdict_line verdict.WriteFault

-- a write fault comes only where the words of the flaw are longer than the room that out has left
abbrev pub FailsPast : (Option Flaw → Type 0) → Verdict → ℕ → Type 0
FailsPast Judged verdict.WriteFault room = (flaw : Option Flaw) × Judged flaw × (room < length (verdict_text flaw))
FailsPast Judged _ room = Unit {0}
