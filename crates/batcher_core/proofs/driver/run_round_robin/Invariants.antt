use Rattle.std.proofs.Common.{◌≡◌, ◌<◌, false, []}
use Rattle.core_model.specs.State.{CoreState}
use Rattle.core_model.specs.Runs.{Drives}
use Rattle.batcher_core.specs.Cores.{job_in_with, state_in, is_over_in}
use Rattle.batcher_core.proofs.RunLemmas.Taken.{SameJob}
use Rattle.core_model.proofs.RunLemmas.Rounds.{turns_left}
use Rattle.batcher_core.proofs.driver.run_round_robin.Given as goal

abbrev pub invariant-loop-over : goal.invariant-loop-over
invariant-loop-over g l = record {
  job : SameJob l.initial.core l.core;
  workers : l.workers ≡ l.initial.core.workers;
  below : l.worker < l.workers;
  over : l.over ≡ is_over_in l.core;
  drives : (last : CoreState) → Drives (job_in_with g.B.WorkBrand.work l.initial.core) (state_in l.core) [] l.worker last → Drives (job_in_with g.B.WorkBrand.work l.initial.core) (state_in l.initial.core) [] 0 last;
  spent : l.core.spent ≡ false → l.initial.core.spent ≡ false;
}

abbrev pub decreases-loop-over : goal.decreases-loop-over
decreases-loop-over g l = turns_left (job_in_with g.B.WorkBrand.work l.initial.core) (state_in l.core) l.worker
