use Rattle.worker_crew.specs.Workers.{IsReady}
use Rattle.worker_turns.proofs.worker.work.Given as goal

abbrev pub invariant-loop : goal.invariant-loop
invariant-loop g l = IsReady l.crew l.me
