use Rattle.batcher_core.proofs.turns.run_by_turns_with.Given as goal

abbrev pub ghosts-start_and_drive : goal.ghosts-start_and_drive
ghosts-start_and_drive g a = record { work = g.W.LeafWork.meaning a.work.now }
