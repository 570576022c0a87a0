use Rattle.job_lang.proofs.ReaderLemmas.Answering.{one_job, one_fault, not_both, job_or_fault}
use Rattle.job_lang.proofs.laws.texts_have_one_job_or_fault.Goals as goal

pub returns-clause-one_job : goal.returns-clause-one_job
returns-clause-one_job c = one_job

pub returns-clause-one_fault : goal.returns-clause-one_fault
returns-clause-one_fault c = one_fault

pub returns-clause-not_both : goal.returns-clause-not_both
returns-clause-not_both c = not_both

pub returns-clause-either : goal.returns-clause-either
returns-clause-either c = job_or_fault
