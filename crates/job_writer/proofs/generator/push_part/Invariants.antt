use Rattle.std.proofs.Common.{◌≡◌, ◌++◌, take, map}
use Rattle.sp_order.specs.Precedence.{leaf, tree_of}
use Rattle.job_writer.specs.Generator.{calls}
use Rattle.job_writer.proofs.generator.push_part.Given as goal

abbrev pub invariant-loop-op : goal.invariant-loop-op
invariant-loop-op l = record {
  acts : l.acts.items ≡ l.initial.acts.items ++ calls (take l.op-index l.ops);
  leaves : map tree_of l.leaves.items ≡ map (λ op. leaf) (take l.op-index l.ops);
}
