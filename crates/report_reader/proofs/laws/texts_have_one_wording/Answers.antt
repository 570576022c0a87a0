use Rattle.report_reader.proofs.Alike.{alike}
use Rattle.report_reader.proofs.Jobs.{named_text}
use Rattle.report_reader.proofs.laws.texts_have_one_wording.Goals as goal

pub returns-clause-named : goal.returns-clause-named
returns-clause-named c job text report is_job has = named_text job text report is_job has

pub returns-clause-alike : goal.returns-clause-alike
returns-clause-alike c text named named' has has' = alike text named named' has has'
