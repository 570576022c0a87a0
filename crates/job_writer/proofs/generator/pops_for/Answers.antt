use Rattle.std.proofs.Common.{ap}
use Rattle.seq_objects.specs.declared.op.Op.TheVariants.{CounterAdd, Pop}
use Rattle.sp_order.specs.Totals.{pushes}
use Rattle.job_writer.proofs.GeneratorLemmas.Phases.{one_more, no_more, not_push}
use Rattle.job_writer.proofs.generator.pops_for.Goals as goal
use Rattle.job_writer.proofs.generator.pops_for.Goals.{in-Push+in_ok-push, in_default}

pub loop-op-preserved : goal.loop-op-preserved
loop-op-preserved c =
    let ops = c.args.ops.now in
    let i = c.loop-op.op-index in
    elim c.match-op.branch [
      | in-Push+in_ok-push w ↦ let more = one_more pushes (Pop 0) ops i (CounterAdd 0 0) c.loop-op-test.true (ap pushes w.in-Push.is) in cc (more, w.in_ok-push.ensures.items)
      | in_default w ↦ let same = no_more pushes (Pop 0) ops i (CounterAdd 0 0) c.loop-op-test.true (not_push _ w.in_default.not-Push) in cc same
    ]
