use Rattle.job_writer.proofs.GeneratorLemmas.Filling.{generated_fills_first}
use Rattle.job_writer.proofs.laws.generated_jobs_fill_first.Goals as goal

pub returns : goal.returns
returns c = generated_fills_first
