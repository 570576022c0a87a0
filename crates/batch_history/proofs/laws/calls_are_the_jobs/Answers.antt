use Rattle.batch_history.proofs.TallyLemmas.Jobs.{totals, keys}
use Rattle.batch_history.proofs.TallyLemmas.Pairs.{apart}
use Rattle.batch_history.proofs.laws.calls_are_the_jobs.Goals as goal

pub returns-clause-totals : goal.returns-clause-totals
returns-clause-totals c = totals

pub returns-clause-keys : goal.returns-clause-keys
returns-clause-keys c = keys

pub returns-clause-order : goal.returns-clause-order
returns-clause-order c = apart
