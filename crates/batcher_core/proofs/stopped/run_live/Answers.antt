use Rattle.std.proofs.Common.{false}
use Rattle.batcher_core.specs.Cores.{job_in, state_in}
use Rattle.core_state.specs.Places.{at}
use Rattle.batcher_core.proofs.RunLemmas.LiveRounds.{ends_here}
use Rattle.batcher_core.proofs.stopped.run_live.Goals as goal

pub returns-clause-drives : goal.returns-clause-drives
returns-clause-drives c =
    c.loop-moved.invariant.drives (state_in c.loop-moved.core)
    (ends_here (job_in c.args.core.now) (at c.args.live.now false) c.loop-moved.core 0 c.loop-moved.invariant.unspent (c.loop-moved.invariant.rests c.loop-moved-test.false))
