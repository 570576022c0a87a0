use Rattle.batch_history.proofs.TallyLemmas.Emptied.{last_is}
use Rattle.batch_history.proofs.TallyLemmas.Jobs.{counter_is}
use Rattle.batch_history.proofs.laws.last_add_replies_the_sum.Goals as goal

pub returns-clause-entries : goal.returns-clause-entries
returns-clause-entries c = last_is

pub returns-clause-report : goal.returns-clause-report
returns-clause-report c = counter_is
