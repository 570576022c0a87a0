use Rattle.std.proofs.Common.{◌≡◌, ◌+◌, false, if◌then◌else◌}
use Rattle.core_model.specs.State.{CoreState}
use Rattle.batcher_core.specs.Cores.{job_in, state_in, is_over_in}
use Rattle.core_model.specs.Measure.{measure}
use Rattle.core_state.specs.Places.{at}
use Rattle.core_model.specs.Stopped.{NoLiveEvent, LiveDrive}
use Rattle.batcher_core.proofs.RunLemmas.Taken.{SameJob}
use Rattle.batcher_core.proofs.stopped.run_live.Given as goal

abbrev pub invariant-loop-moved : goal.invariant-loop-moved
invariant-loop-moved l = record {
  job : SameJob l.initial.core l.core;
  unspent : l.core.spent ≡ false;
  drives : (last : CoreState)
      → LiveDrive (job_in l.initial.core) (at l.live false) (state_in l.core) 0 last
      → LiveDrive (job_in l.initial.core) (at l.live false) (state_in l.initial.core) 0 last;
  rests : l.moved ≡ false → is_over_in l.core ≡ false → NoLiveEvent (job_in l.initial.core) (at l.live false) (state_in l.core);
}

abbrev pub decreases-loop-moved : goal.decreases-loop-moved
decreases-loop-moved l = if l.moved then measure (job_in l.initial.core) (state_in l.core).state + 1 else 0
