use Rattle.batchrun.proofs.CommandLemmas.Schedules.{scheduled_below, all_named}
use Rattle.batchrun.proofs.command.schedule.decode_schedule.Goals as goal

pub returns-clause-schedule : goal.returns-clause-schedule
returns-clause-schedule c = all_named c.loop-byte.schedule.items c.args.word.now c.loop-byte.byte-index c.loop-byte-test.false c.loop-byte.invariant.named

pub returns-clause-workers : goal.returns-clause-workers
returns-clause-workers c =
    rw (all_named c.loop-byte.schedule.items c.args.word.now c.loop-byte.byte-index c.loop-byte-test.false c.loop-byte.invariant.named)
    (scheduled_below c.args.workers c.args.word.now c.requires)
