use Rattle.batcher_core.proofs.turns.start_and_drive.Goals as goal

pub returns-clause-lawful : goal.returns-clause-lawful
returns-clause-lawful g c = rw (← c.in_ok-core.ensures.job.0, ← c.in_ok-core.ensures.job.1) c.drive_with.ensures.lawful
