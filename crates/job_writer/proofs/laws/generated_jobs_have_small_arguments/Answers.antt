use Rattle.job_writer.proofs.GeneratorLemmas.Arguments.{generated_arguments}
use Rattle.job_writer.proofs.laws.generated_jobs_have_small_arguments.Goals as goal

pub returns : goal.returns
returns c = generated_arguments
