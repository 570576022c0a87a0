-- The result of reading a file: its job, or the status that ended the run.
use Rattle.std.specs.Prelude.{ℕ, ◌<◌, List, length, Option, IfSome}
use Rattle.limits.specs.declared.TheConstants.{MOST_JOB_BYTES}
use Rattle.sp_order.specs.Jobs.{JobValue}
use Rattle.job_lang.specs.Language.{IsJobOf}
use Rattle.program_io.specs.Reading.{WasRead}
use Rattle.batchrun.specs.Outcomes.{IsRefused}
use Rattle.batchrun.specs.declared.status.Refusal.TheVariants.{TooLong, Job}
use Rattle.batchrun.specs.declared.status.Status.{Status}
use Rattle.batchrun.specs.declared.status.Status.TheVariants.{ReadFault, Refused, Memory}

-- the bytes that were read are a text of this job
pub record HasJob (held : Option (List ℕ)) (job : JobValue) : Type 0 where
  pub bytes : List ℕ
  pub read : WasRead MOST_JOB_BYTES held bytes
  pub accepted : IsJobOf bytes job

-- the reading ended the run with this status, before there was a job
abbrev pub EndsReading : Status → Option (List ℕ) → Type 0 → Type 0
EndsReading ReadFault held ReadsFailed = ReadsFailed
EndsReading (Refused TooLong) held ReadsFailed = IfSome held (λ bytes. MOST_JOB_BYTES < length bytes)
EndsReading (Refused (Job fault)) held ReadsFailed = IsRefused held fault
EndsReading Memory held ReadsFailed = Unit {0}
EndsReading status held ReadsFailed = ⊥
