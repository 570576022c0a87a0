use Rattle.job_writer.proofs.GeneratorLemmas.Texts.{generated_acts, generated_least, generated_most}
use Rattle.job_writer.proofs.laws.generated_jobs_have_few_leaves.Goals as goal

pub returns-clause-acts : goal.returns-clause-acts
returns-clause-acts c = generated_acts

pub returns-clause-least : goal.returns-clause-least
returns-clause-least c = generated_least

pub returns-clause-most : goal.returns-clause-most
returns-clause-most c = generated_most
