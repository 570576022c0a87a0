use Rattle.locked_run.proofs.locked.run_locked.Given as goal

abbrev pub ghosts-run_core : goal.ghosts-run_core
ghosts-run_core g a = record { job = a.core.job; workers = a.core.workers }
