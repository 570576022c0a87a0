use Rattle.batchcheck.proofs.laws.accepted_jobs_have_one_flaw.Goals as goal

pub returns : goal.returns
returns c bytes text job flaw flaw' is has has' = c.texts_have_one_flaw.ensures job text flaw flaw' (c.accepted_jobs_are_jobs.ensures bytes job is) has has'
