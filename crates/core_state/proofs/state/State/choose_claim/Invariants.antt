use Rattle.std.proofs.Common.{◌≡◌, ◌-◌, ◌+◌, []}
use Rattle.core_model.specs.Choice.{choice_steal}
use Rattle.core_state.specs.Abstraction.{ready_of}
use Rattle.core_state.proofs.state.State.choose_claim.Given as goal

abbrev pub invariant-loop-k : goal.invariant-loop-k
invariant-loop-k l = record {
  so_far : choice_steal (ready_of l.self) l.workers (l.worker + l.k) (l.workers - l.k) ≡ choice_steal (ready_of l.self) l.workers (l.worker + 1) (l.workers - 1);
  own : ready_of l.self l.worker ≡ [];
}
