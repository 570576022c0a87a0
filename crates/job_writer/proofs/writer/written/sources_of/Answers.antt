use Rattle.std.proofs.Common.{◌∙◌, ◌<◌, Some, ap, sym, subst, take}
use Rattle.std.specs.Prelude.{IfSome}
use Rattle.job_writer.specs.Canonical.{is_source}
use Rattle.job_writer.proofs.WriterLemmas.Marks.{source_more, source_below}
use Rattle.job_writer.proofs.writer.written.sources_of.Goals as goal

pub mark-requires : goal.mark-requires
mark-requires c =
    let job = c.acts-count.ensures.job in
    let below = source_below c.args.job.now.shape c.args.job.now.acts c.args.job.now.sources c.loop-leaf.leaf c.source.result job.sources c.source.ensures in
    subst (λ n. IfSome c.source.result (λ source. source < n)) (sym c.loop-leaf.invariant.count) below

pub loop-leaf-preserved : goal.loop-leaf-preserved
loop-leaf-preserved c = record {
  count = c.mark.ensures.count ∙ c.loop-leaf.invariant.count;
  each = λ k below. c.mark.ensures.each k (is_source (take c.loop-leaf.leaf c.args.job.now.sources) k) (c.loop-leaf.invariant.each k below)
      ∙ ap (λ b. Some b) (sym (source_more c.args.job.now.sources c.loop-leaf.leaf k c.source.result c.source.ensures));
}
