use Rattle.std.proofs.lemmas.Result.{IfOk-weaker}
use Rattle.job_lang.proofs.ExpandLemmas.Replies.{accepted_replies}
use Rattle.job_lang.proofs.ReaderLemmas.Answering.{answers_job, answers_fault}
use Rattle.job_lang.proofs.reader.read_job.Goals as goal

pub returns-clause-replies : goal.returns-clause-replies
returns-clause-replies c = IfOk-weaker c.read.result _ _ (λ job is. accepted_replies c.args.text.now job is) c.read.ensures.job

pub returns-clause-accepts : goal.returns-clause-accepts
returns-clause-accepts c = answers_job c.args.text.now c.read.result c.read.ensures.job c.read.ensures.fault

pub returns-clause-refuses : goal.returns-clause-refuses
returns-clause-refuses c = answers_fault c.args.text.now c.read.result c.read.ensures.job c.read.ensures.fault
