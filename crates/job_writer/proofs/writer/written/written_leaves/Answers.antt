use Rattle.std.proofs.Common.{rules, ◌∙◌, ◌<◌, Some, ap, sym, refl, length, get_or, arith}
use Rattle.std.proofs.lemmas.Option.{get_or_from_slice_get, slice_get-get_or}
use Rattle.seq_objects.specs.declared.act.Act.TheVariants.{Work}
use Rattle.job_writer.specs.Canonical.{is_source}
use Rattle.job_writer.proofs.WriterLemmas.Marks.{one_pushed}
use Rattle.job_writer.proofs.writer.written.written_leaves.Goals as goal

pub loop-leaf-preserved : goal.loop-leaf-preserved
loop-leaf-preserved c =
    let job = c.args.job.now in
    let below : c.loop-leaf.leaf < length job.acts = search (rules, arith) in
    record {
      so_far = one_pushed job.sources job.acts job.sources c.loop-leaf.leaf c.loop-leaf.written.items c.push.new.self.items _ c.loop-leaf.invariant.so_far c.in_ok-push.ensures.items
          refl
          (c.index.ensures ∙ get_or_from_slice_get c.in_ok-named.named.items c.loop-leaf.leaf (is_source job.sources c.loop-leaf.leaf) _ (c.in_ok-named.ensures.each c.loop-leaf.leaf below))
          (slice_get-get_or job.acts c.loop-leaf.leaf (Work 0) below ∙ ap (λ acts. Some (get_or acts c.loop-leaf.leaf (Work 0))) (sym c.acts-acts.ensures.acts))
          c.source.ensures;
    }
