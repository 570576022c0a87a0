use Rattle.batch_history.proofs.TallyLemmas.SmallReplies.{small_replies, small_replies_of}
use Rattle.batch_history.proofs.laws.replies_are_small.Goals as goal

pub returns-clause-entries : goal.returns-clause-entries
returns-clause-entries c = small_replies

pub returns-clause-report : goal.returns-clause-report
returns-clause-report c = small_replies_of
