use Rattle.std.proofs.Common.{◌≡◌, ◌≤◌, map}
use Rattle.std.specs.List.{range_with_len}
use Rattle.limits.specs.declared.TheConstants.{MOST_LEAVES}
use Rattle.job_uses.proofs.ChunkSums.{handle}
use Rattle.job_uses.proofs.TotalJobs.{calling, works}
use Rattle.job_uses.proofs.totals.total_job.Given as goal

abbrev pub invariant-loop-chunk : goal.invariant-loop-chunk
invariant-loop-chunk l = record {
  draft : l.job ≡ works l.chunk;
  few : l.chunk ≤ MOST_LEAVES;
  handles : l.leaves.items ≡ map handle (range_with_len 0 l.chunk);
}

abbrev pub invariant-loop-leaf : goal.invariant-loop-leaf
invariant-loop-leaf l = l.job ≡ calling l.chunks l.leaf-index
