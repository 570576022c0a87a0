-- Consequences for a run of a generated job.
use Rattle.std.proofs.Common.{◌≡◌, ℕ, ◌≤◌, List, length, Option, Some, None, Result, IfOk, inl, inr, refl, ap, subst, arith}
use Rattle.std.specs.Io.KnownBytes.{Appends}
use Rattle.sp_order.specs.Jobs.{JobValue}
use Rattle.batch_history.specs.Lawful.{Lawful}
use Rattle.batch_history.specs.declared.report.Report.{Report}
use Rattle.batch_history.specs.Summary.{summary_of_report, summary_of_job}
use Rattle.job_writer.specs.Generator.{generated}
use Rattle.batchrun.specs.Words.{gen}
use Rattle.batchrun.specs.Outcomes.{Prints, MadeCause, FailsPast, IsUnlessMemory}
use Rattle.batchrun.specs.Commands.{PrintsMade, PrintsSummary}
use Rattle.batchrun.specs.Code.Writing.{WritesReport}
use Rattle.batchrun.proofs.OutcomeLemmas.Headlines.{prints_with}
use Rattle.batchrun.specs.declared.status.Status.{Status}
use Rattle.batchrun.specs.declared.status.Status.TheVariants.{Done, Made, Usage, ReadFault, Refused, WriteFault, Memory}

-- an outcome prints the summary of its lawful report
pub prints_made : {E : Type 0} (size seed workers : ℕ) (job : JobValue) (run : Result Report E) → job ≡ generated seed size → IfOk run (λ report. Lawful job workers report)
    → (status : Status) (report : Option Report) (old new : Option (List ℕ)) → Prints (WritesReport run (summary_of_report seed size)) status report old new → Prints (PrintsMade size seed workers) status report old new
prints_made size seed workers job run is lawful =
    prints_with (WritesReport run (summary_of_report seed size)) (PrintsMade size seed workers)
    (λ report lines writes. let own = rw writes.0 at lawful in (subst (λ (j : JobValue). Lawful j workers report) is own, writes.1))

module _ (size seed workers : ℕ) (Runs : Report → List ℕ → Type 0)
    (same : (report : Report) (lines : List ℕ) → Runs report lines → lines ≡ summary_of_job seed size workers (generated seed size)) where
  -- what is printed is the summary of the job
  pub prints_summary : (status : Status) (report : Option Report) (old new : Option (List ℕ))
      → Prints Runs status report old new → PrintsSummary (Some (gen size seed workers)) status old new
  prints_summary Made None old new line = absurd line
  prints_summary Made (Some report) old new line = subst (λ (lines : List ℕ). Appends old new lines) (same report line.0 line.1) line.2
  prints_summary Done report old new line = tt
  prints_summary Usage report old new line = tt
  prints_summary ReadFault report old new line = tt
  prints_summary (Refused refusal) report old new line = tt
  prints_summary WriteFault report old new line = tt
  prints_summary Memory report old new line = tt

  -- where the summary fits the room, the status is `Made`, unless memory runs out
  pub made_assured : (status : Status) (report : Option Report) (W : Type 0) (old new : Option (List ℕ)) (room : ℕ)
      → MadeCause status W → Prints Runs status report old new → FailsPast Runs status report room
      → length (summary_of_job seed size workers (generated seed size)) ≤ room → IsUnlessMemory status Made
  made_assured Made report W old new room why line past fits = inl refl
  made_assured Memory report W old new room why line past fits = inr refl
  made_assured WriteFault None W old new room why line past fits = absurd line
  made_assured WriteFault (Some report) W old new room why line past fits = absurd (omega (arith, fits, past.2, ap length (same report past.0 past.1)))
  made_assured Done report W old new room why line past fits = absurd why
  made_assured Usage report W old new room why line past fits = absurd why
  made_assured ReadFault report W old new room why line past fits = absurd why
  made_assured (Refused refusal) report W old new room why line past fits = absurd why

-- where no write fails, the status is `Made`, unless memory runs out
pub made_completes : (status : Status) (W : Type 0) → MadeCause status W → ¬ W → IsUnlessMemory status Made
made_completes Made W why calm = inl refl
made_completes Memory W why calm = inr refl
made_completes WriteFault W why calm = absurd (calm why)
made_completes Done W why calm = absurd why
made_completes Usage W why calm = absurd why
made_completes ReadFault W why calm = absurd why
made_completes (Refused refusal) W why calm = absurd why
