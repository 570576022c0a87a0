use Rattle.std.proofs.Common.{◌≡◌, ◌-◌, ◌++◌}
use Rattle.job_writer.specs.Generator.{growing_ops}
use Rattle.job_writer.proofs.generator.growing_ops.Given as goal

abbrev pub invariant-loop : goal.invariant-loop
invariant-loop l = l.ops.items ++ growing_ops l.number (l.size - l.counter) ≡ growing_ops l.fn.seed l.size
