use Rattle.worker_turns.proofs.CarryLemmas.Steps.{carried_none}
use Rattle.worker_turns.proofs.carry.run_to_idle.Goals as goal

pub loop-init : goal.loop-init
loop-init g c = record {
  me = c.requires.me;
  free_pass = c.requires.free_pass;
  free = c.requires.free;
  carried = carried_none _;
}
