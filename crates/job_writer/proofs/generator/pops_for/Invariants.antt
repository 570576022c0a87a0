use Rattle.std.proofs.Common.{◌≡◌, take}
use Rattle.job_writer.specs.Generator.{pops_for}
use Rattle.job_writer.proofs.generator.pops_for.Given as goal

abbrev pub invariant-loop-op : goal.invariant-loop-op
invariant-loop-op l = l.pops.items ≡ pops_for (take l.op-index l.ops)
