use Rattle.worker_loop.proofs.table_run.make_crew.Goals as goal

pub of-requires-clause-passes : goal.of-requires-clause-passes
of-requires-clause-passes g c = (c.in_ok-table.ensures.count, c.in_ok-table.ensures.passes)
