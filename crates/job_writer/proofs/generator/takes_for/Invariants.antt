use Rattle.std.proofs.Common.{◌≡◌, take}
use Rattle.job_writer.specs.Generator.{takes_for}
use Rattle.job_writer.proofs.generator.takes_for.Given as goal

abbrev pub invariant-loop-op : goal.invariant-loop-op
invariant-loop-op l = l.takes.items ≡ takes_for (take l.op-index l.ops)
