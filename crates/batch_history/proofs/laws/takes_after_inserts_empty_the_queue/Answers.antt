use Rattle.batch_history.proofs.TallyLemmas.Emptied.{bag_left, takes_all}
use Rattle.batch_history.proofs.TallyLemmas.Jobs.{queue_is}
use Rattle.batch_history.proofs.laws.takes_after_inserts_empty_the_queue.Goals as goal

pub returns-clause-left : goal.returns-clause-left
returns-clause-left c = bag_left

pub returns-clause-sum : goal.returns-clause-sum
returns-clause-sum c = takes_all

pub returns-clause-report : goal.returns-clause-report
returns-clause-report c = queue_is
