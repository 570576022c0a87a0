use Rattle.core_table.proofs.rotation.+rotate_by.Given as goal

abbrev pub decreases-rotate_by : goal.decreases-rotate_by
decreases-rotate_by l = l.times
