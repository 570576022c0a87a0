use Rattle.batcher_core.proofs.scheduler.CoreWith.stands.Goals as goal

pub returns-clause-invariant : goal.returns-clause-invariant
returns-clause-invariant g c = λ unspent. (c.invariant_holds.ensures unspent).inv

pub returns-clause-sources : goal.returns-clause-sources
returns-clause-sources g c = λ unspent. (c.invariant_holds.ensures unspent).sources
