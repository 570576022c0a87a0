use Rattle.std.proofs.Common.{◌≡◌, false, drop}
use Rattle.core_model.specs.State.{CoreState}
use Rattle.core_model.specs.Runs.{Drives}
use Rattle.batcher_core.specs.Cores.{job_in_with, state_in}
use Rattle.batcher_core.proofs.RunLemmas.Taken.{SameJob}
use Rattle.batcher_core.proofs.driver.run_schedule.Given as goal

abbrev pub invariant-loop-worker : goal.invariant-loop-worker
invariant-loop-worker g l = record {
  job : SameJob l.fn.core l.core;
  drives : (last : CoreState) → Drives (job_in_with g.B.WorkBrand.work l.fn.core) (state_in l.core) (drop l.worker-index l.schedule) 0 last
      → Drives (job_in_with g.B.WorkBrand.work l.fn.core) (state_in l.fn.core) l.schedule 0 last;
  spent : l.core.spent ≡ false → l.fn.core.spent ≡ false;
}
