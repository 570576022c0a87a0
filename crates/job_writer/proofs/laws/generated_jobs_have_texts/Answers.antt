use Rattle.job_writer.proofs.GeneratorLemmas.Texts.{generated_depth, generated_short, generated_replies, generated_text}
use Rattle.job_writer.proofs.laws.generated_jobs_have_texts.Goals as goal

pub returns-clause-depth : goal.returns-clause-depth
returns-clause-depth c = generated_depth

pub returns-clause-replies : goal.returns-clause-replies
returns-clause-replies c = generated_replies

pub returns-clause-short : goal.returns-clause-short
returns-clause-short c = generated_short

pub returns-clause-text : goal.returns-clause-text
returns-clause-text c = generated_text
