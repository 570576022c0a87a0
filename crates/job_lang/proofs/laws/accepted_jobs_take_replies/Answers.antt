use Rattle.job_lang.proofs.ExpandLemmas.Replies.{accepted_replies}
use Rattle.job_lang.proofs.laws.accepted_jobs_take_replies.Goals as goal

pub returns : goal.returns
returns c = accepted_replies
