use Rattle.worker_loop.proofs.table_run.run_crew.Goals as goal

pub returns-in-Some-clause-lawful : goal.returns-in-Some-clause-lawful
returns-in-Some-clause-lawful g c = c.in-Some.ensures.lawful_with g.B.WorkBrand.work
