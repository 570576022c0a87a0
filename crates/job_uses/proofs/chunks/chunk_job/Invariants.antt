use Rattle.std.proofs.Common.{◌≡◌, map}
use Rattle.std.specs.List.{AllByRecursion, range_with_len}
use Rattle.std.specs.Prelude.{None}
use Rattle.seq_objects.specs.declared.act.Act.TheVariants.{Work}
use Rattle.job_lang.specs.declared.join.Order.TheVariants.{Parallel}
use Rattle.job_builder.specs.Drafts.{nothing, opened}
use Rattle.job_uses.specs.Code.Growth.{HasGrown}
use Rattle.job_uses.proofs.chunks.chunk_job.Given as goal

abbrev pub invariant-loop-chunk : goal.invariant-loop-chunk
invariant-loop-chunk l = record {
  grown : HasGrown (opened (nothing 0) Parallel) l.job l.chunk;
  number : l.job.job ≡ 0;
  acts : l.job.acts ≡ map Work (range_with_len 0 l.chunk);
  plain : AllByRecursion (λ source. source ≡ None) l.job.sources;
  unnamed : AllByRecursion (λ object. object ≡ None) l.job.objects;
  handles : l.leaves.items ≡ map (λ leaf. record { job = 0; leaf = leaf }) (range_with_len 0 l.chunk);
}
