use Rattle.batch_history.proofs.TallyLemmas.Jobs.{tally_is}
use Rattle.batch_history.proofs.laws.tally_is_the_jobs.Goals as goal

pub returns : goal.returns
returns c job workers report fills lawful = tally_is job workers report lawful fills.no_sources fills
