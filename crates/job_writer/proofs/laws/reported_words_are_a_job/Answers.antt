use Rattle.job_writer.proofs.WriterLemmas.Jobs.{nameless_words, named_words}
use Rattle.job_writer.proofs.laws.reported_words_are_a_job.Goals as goal

pub returns-clause-nameless : goal.returns-clause-nameless
returns-clause-nameless c = nameless_words

pub returns-clause-named : goal.returns-clause-named
returns-clause-named c = named_words
