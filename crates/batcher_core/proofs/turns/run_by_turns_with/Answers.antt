use Rattle.batcher_core.proofs.turns.run_by_turns_with.Goals as goal

pub returns-in-Some-clause-lawful : goal.returns-in-Some-clause-lawful
returns-in-Some-clause-lawful g c = c.in-Some.ensures.lawful_with (g.W.LeafWork.meaning c.args.work.now)
