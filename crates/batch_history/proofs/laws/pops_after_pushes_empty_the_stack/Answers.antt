use Rattle.batch_history.proofs.TallyLemmas.Emptied.{stack_left, pops_all}
use Rattle.batch_history.proofs.TallyLemmas.Jobs.{stack_is}
use Rattle.batch_history.proofs.laws.pops_after_pushes_empty_the_stack.Goals as goal

pub returns-clause-left : goal.returns-clause-left
returns-clause-left c = stack_left

pub returns-clause-sum : goal.returns-clause-sum
returns-clause-sum c = pops_all

pub returns-clause-report : goal.returns-clause-report
returns-clause-report c = stack_is
