use Rattle.std.proofs.Common.{◌≡◌, ◌≤◌, drop}
use Rattle.worker_crew.specs.Opening.{AreAtStartUpTo}
use Rattle.worker_crew.proofs.crew.opening.make_workers.Given as goal

abbrev pub invariant-loop-worker : goal.invariant-loop-worker
invariant-loop-worker g l = record {
  passes : l.passes.items ≡ drop l.worker l.fn.passes.items;
  hands : l.hands.items ≡ drop l.worker l.fn.hands.items;
  desks : l.desks.items ≡ drop l.worker l.fn.desks.items;
  inside : l.worker ≤ l.crew.workers;
  mes : AreAtStartUpTo l.crew l.worker l.mes.items;
}
