use Rattle.std.proofs.Common.{◌≡◌}
use Rattle.seq_objects.specs.Spin.{after_steps}
use Rattle.seq_objects.proofs.work.spin.Given as goal

abbrev pub invariant-loop : goal.invariant-loop
invariant-loop l = l.x ≡ after_steps l.counter l.fn.n
