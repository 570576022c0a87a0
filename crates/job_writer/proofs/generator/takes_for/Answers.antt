use Rattle.std.proofs.Common.{ap}
use Rattle.seq_objects.specs.declared.op.Op.TheVariants.{CounterAdd, PqTake}
use Rattle.sp_order.specs.Totals.{queue_inserts}
use Rattle.job_writer.proofs.GeneratorLemmas.Phases.{one_more, no_more, not_queue_insert}
use Rattle.job_writer.proofs.generator.takes_for.Goals as goal
use Rattle.job_writer.proofs.generator.takes_for.Goals.{in-PqInsert+in_ok-push, in_default}

pub loop-op-preserved : goal.loop-op-preserved
loop-op-preserved c =
    let ops = c.args.ops.now in
    let i = c.loop-op.op-index in
    elim c.match-op.branch [
      | in-PqInsert+in_ok-push w ↦ let more = one_more queue_inserts (PqTake 0) ops i (CounterAdd 0 0) c.loop-op-test.true (ap queue_inserts w.in-PqInsert.is) in cc (more, w.in_ok-push.ensures.items)
      | in_default w ↦ let same = no_more queue_inserts (PqTake 0) ops i (CounterAdd 0 0) c.loop-op-test.true (not_queue_insert _ w.in_default.not-PqInsert) in cc same
    ]
