-- What the run of each command owes.
use Rattle.std.proofs.Common.{◌≡◌, ℕ, ◌≤◌, List, length, Bool, Option, Some, None, IsSome, IfSome, refl}
use Rattle.std.specs.Prelude.{IsTrue}
use Rattle.batch_history.specs.declared.report.Report.{Report}
use Rattle.batch_history.specs.Summary.{summary_of_job}
use Rattle.core_model.specs.Reports.{IsRunReport}
use Rattle.job_writer.specs.Generator.{generated}
use Rattle.batchrun.specs.Words.{step, run, gen}
use Rattle.batchrun.specs.Outcomes.{PrintsRun, HasDriven, IsModelRun, Prints, FileCause, MadeCause, FailsPast, IsUnlessMemory}
use Rattle.batchrun.specs.Commands.{PrintsMade, PrintsSummary, Owes}
use Rattle.batchrun.specs.Code.Runs.{IsRun}
use Rattle.batchrun.specs.declared.status.Status.{Status}
use Rattle.batchrun.specs.declared.status.Status.TheVariants.{Made, ReadFault}
use Rattle.batchrun.proofs.OutcomeLemmas.Asked.{asked, assured, no_usage}
use Rattle.batchrun.proofs.OutcomeLemmas.Ends.{OneJob, NoFault, OneFault, completes}
use Rattle.batchrun.proofs.OutcomeLemmas.Made.{made_completes}

not_driven : (report : Option Report) → IfSome report (λ _. Unit {0})
not_driven None = tt
not_driven (Some report) = tt

module _ (one_job : OneJob) (no_fault : NoFault) (one_fault : OneFault) (file : List ℕ) (workers : ℕ) (held : List ℕ → Option (List ℕ)) (status : Status) (report : Option Report) (old new : Option (List ℕ)) (R W : Type 0) (never_fails : Bool) (room : ℕ)
    (line : Prints (PrintsRun (held file) workers) status report old new) (why : FileCause status (held file) R W)
    (reads : IsTrue never_fails → IsSome (held file) → status ≡ ReadFault → ⊥) (past : FailsPast (PrintsRun (held file) workers) status report room) (model : IfSome report (IsModelRun (held file) workers)) where
  -- a run by turns
  pub stepped : (schedule : List ℕ) → IfSome report (HasDriven (held file) workers schedule) → IsRun (Some (step file workers schedule)) held status report old new R W never_fails room
  stepped schedule driven = record {
    headline = line;
    summary = tt;
    usage = no_usage (Some (step file workers schedule)) (step file workers schedule) held status R W refl why;
    owes = asked (Some (step file workers schedule)) (step file workers schedule) (λ c. Owes c held status report R W never_fails room) refl (record {
      driven = driven;
      model = model;
      cause = why;
      completes = completes one_fault no_fault status report _ _ _ _ _ _ why line;
      writes = past;
      assured = assured one_job no_fault status report (held file) workers R W old new never_fails room why line reads past;
    });
  }

  -- a run in threads
  pub run_of_file : IsRun (Some (run file workers)) held status report old new R W never_fails room
  run_of_file = record {
    headline = line;
    summary = tt;
    usage = no_usage (Some (run file workers)) (run file workers) held status R W refl why;
    owes = asked (Some (run file workers)) (run file workers) (λ c. Owes c held status report R W never_fails room) refl (record {
      driven = not_driven report;
      model = model;
      cause = why;
      completes = completes one_fault no_fault status report _ _ _ _ _ _ why line;
      writes = past;
      assured = assured one_job no_fault status report (held file) workers R W old new never_fails room why line reads past;
    });
  }

-- a run of a generated job
pub run_of_made : (size seed workers : ℕ) (held : List ℕ → Option (List ℕ)) (status : Status) (report : Option Report) (old new : Option (List ℕ)) (R W : Type 0) (never_fails : Bool) (room : ℕ)
    → Prints (PrintsMade size seed workers) status report old new → PrintsSummary (Some (gen size seed workers)) status old new
    → MadeCause status W → FailsPast (PrintsMade size seed workers) status report room
    → (length (summary_of_job seed size workers (generated seed size)) ≤ room → IsUnlessMemory status Made)
    → IfSome report (IsRunReport (generated seed size) workers)
    → IsRun (Some (gen size seed workers)) held status report old new R W never_fails room
run_of_made size seed workers held status report old new R W never_fails room line summary why past sure model = record {
  headline = line;
  summary = summary;
  usage = no_usage (Some (gen size seed workers)) (gen size seed workers) held status R W refl why;
  owes = asked (Some (gen size seed workers)) (gen size seed workers) (λ c. Owes c held status report R W never_fails room) refl (record {
    driven = not_driven report;
    model = model;
    cause = why;
    completes = made_completes status W why;
    writes = past;
    assured = sure;
  });
}
