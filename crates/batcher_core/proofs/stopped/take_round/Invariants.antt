use Rattle.std.proofs.Common.{◌≡◌, ◌<◌, ◌≤◌, ◌%◌, true, false}
use Rattle.core_model.specs.State.{CoreState}
use Rattle.batcher_core.specs.Cores.{job_in, state_in}
use Rattle.core_model.specs.Measure.{measure}
use Rattle.core_state.specs.Places.{at}
use Rattle.core_model.specs.Stopped.{LiveDrive}
use Rattle.batcher_core.proofs.RunLemmas.Taken.{SameJob}
use Rattle.batcher_core.proofs.RunLemmas.LiveRounds.{RestBelow}
use Rattle.batcher_core.proofs.stopped.take_round.Given as goal

abbrev pub invariant-loop-worker : goal.invariant-loop-worker
invariant-loop-worker l = record {
  job : SameJob l.fn.core l.core;
  unspent : l.core.spent ≡ false;
  drives : (last : CoreState)
      → LiveDrive (job_in l.fn.core) (at l.live false) (state_in l.core) (l.worker % l.fn.core.workers) last
      → LiveDrive (job_in l.fn.core) (at l.live false) (state_in l.fn.core) 0 last;
  fewer : (measure (job_in l.fn.core) (state_in l.core).state ≤ measure (job_in l.fn.core) (state_in l.fn.core).state)
      × (l.moved ≡ true → measure (job_in l.fn.core) (state_in l.core).state < measure (job_in l.fn.core) (state_in l.fn.core).state);
  rests : l.moved ≡ false → RestBelow (job_in l.fn.core) (at l.live false) (state_in l.core) l.worker;
}
