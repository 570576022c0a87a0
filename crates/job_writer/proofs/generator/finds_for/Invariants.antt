use Rattle.std.proofs.Common.{◌≡◌, take}
use Rattle.job_writer.specs.Generator.{finds_for}
use Rattle.job_writer.proofs.generator.finds_for.Given as goal

abbrev pub invariant-loop-op : goal.invariant-loop-op
invariant-loop-op l = l.finds.items ≡ finds_for (take l.op-index l.ops)
