use Rattle.batch_history.proofs.TallyLemmas.Finds.{keys_are, finds_say}
use Rattle.batch_history.proofs.TallyLemmas.Keys.{inserted_are, inserted_ascend}
use Rattle.batch_history.proofs.TallyLemmas.Jobs.{finds_are}
use Rattle.batch_history.proofs.laws.finds_after_inserts_tell_the_inserted_keys.Goals as goal

pub returns-clause-inserted : goal.returns-clause-inserted
returns-clause-inserted c = inserted_are

pub returns-clause-once : goal.returns-clause-once
returns-clause-once c = inserted_ascend

pub returns-clause-keys : goal.returns-clause-keys
returns-clause-keys c = keys_are

pub returns-clause-finds : goal.returns-clause-finds
returns-clause-finds c = finds_say

pub returns-clause-report : goal.returns-clause-report
returns-clause-report c = finds_are
