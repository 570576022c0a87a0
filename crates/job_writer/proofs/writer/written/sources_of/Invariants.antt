use Rattle.std.proofs.Common.{◌≡◌, ℕ, ◌<◌, Some, length, take}
use Rattle.std.specs.Prelude.{slice_get}
use Rattle.job_writer.specs.Canonical.{is_source}
use Rattle.job_writer.proofs.writer.written.sources_of.Given as goal

abbrev pub invariant-loop-leaf : goal.invariant-loop-leaf
invariant-loop-leaf l = record {
  count : length l.named.items ≡ length l.job.acts;
  each : (k : ℕ) → k < length l.job.acts → slice_get l.named.items k ≡ Some (is_source (take l.leaf l.job.sources) k);
}
