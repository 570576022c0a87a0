use Rattle.std.proofs.Common.{◌≡◌, take}
use Rattle.job_writer.specs.Canonical.{written_from}
use Rattle.job_writer.proofs.writer.written.written_leaves.Given as goal

abbrev pub invariant-loop-leaf : goal.invariant-loop-leaf
invariant-loop-leaf l = record {
  so_far : l.written.items ≡ written_from l.job.sources 0 (take l.leaf l.job.acts) (take l.leaf l.job.sources);
}
