use Rattle.batch_history.proofs.TallyLemmas.Jobs.{lines_are, can_be_summed, small_can_be}
use Rattle.batch_history.proofs.laws.summary_is_the_jobs.Goals as goal

pub returns-clause-lines : goal.returns-clause-lines
returns-clause-lines c job workers report seed size fills lawful = lines_are job workers report lawful fills.no_sources seed size fills

pub returns-clause-sums : goal.returns-clause-sums
returns-clause-sums c job workers report fills lawful = can_be_summed job workers report lawful fills.no_sources fills

pub returns-clause-small : goal.returns-clause-small
returns-clause-small c job workers report fills lawful = small_can_be job workers report lawful fills.no_sources fills
