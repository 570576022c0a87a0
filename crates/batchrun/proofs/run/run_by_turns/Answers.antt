use Rattle.batchrun.proofs.run.run_by_turns.Goals as goal

pub returns-clause-lawful : goal.returns-clause-lawful
returns-clause-lawful c = rw (← c.in_ok-core.ensures.job.0, ← c.in_ok-core.ensures.job.1) c.drive.ensures.lawful
