use Rattle.worker_loop.proofs.table_run.run_table_with.Given as goal

abbrev pub ghosts-run_crew : goal.ghosts-run_crew
ghosts-run_crew g a = record { work = g.W.LeafWork.meaning a.work.now }
