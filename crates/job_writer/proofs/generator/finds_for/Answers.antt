use Rattle.seq_objects.specs.declared.op.Op.TheVariants.{CounterAdd}
use Rattle.job_writer.proofs.GeneratorLemmas.Phases.{find_more, no_find_more}
use Rattle.job_writer.proofs.generator.finds_for.Goals as goal
use Rattle.job_writer.proofs.generator.finds_for.Goals.{in-TreeInsert+in_ok-push, in_default}

pub loop-op-preserved : goal.loop-op-preserved
loop-op-preserved c =
    let ops = c.args.ops.now in
    let i = c.loop-op.op-index in
    elim c.match-op.branch [
      | in-TreeInsert+in_ok-push w ↦ let more = find_more ops i (CounterAdd 0 0) _ _ c.loop-op-test.true w.in-TreeInsert.is in cc (more, w.in_ok-push.ensures.items)
      | in_default w ↦ let same = no_find_more ops i (CounterAdd 0 0) c.loop-op-test.true w.in_default.not-TreeInsert in cc same
    ]
