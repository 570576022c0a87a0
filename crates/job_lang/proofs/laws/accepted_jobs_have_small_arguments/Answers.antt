use Rattle.job_lang.proofs.LimitLemmas.SmallActs.{accepted_acts}
use Rattle.job_lang.proofs.LimitLemmas.SmallArguments.{small_arguments}
use Rattle.job_lang.proofs.laws.accepted_jobs_have_small_arguments.Goals as goal

pub returns-clause-numbers : goal.returns-clause-numbers
returns-clause-numbers c = accepted_acts

pub returns-clause-arguments : goal.returns-clause-arguments
returns-clause-arguments c text job is = small_arguments job.acts (accepted_acts text job is)
