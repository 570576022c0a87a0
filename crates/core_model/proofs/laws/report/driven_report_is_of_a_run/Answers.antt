use Rattle.core_model.specs.State.{core_job_with}
use Rattle.core_model.proofs.RunLemmas.Joined.{driven_from, driven_shape}
use Rattle.core_model.proofs.laws.report.driven_report_is_of_a_run.Goals as goal

pub returns-clause-from : goal.returns-clause-from
returns-clause-from c job leaf_total first schedule report driven = driven_from job leaf_total first schedule report driven

pub returns-clause-opening : goal.returns-clause-opening
returns-clause-opening c work job workers schedule report driven = driven_shape job.shape job (core_job_with work job workers) schedule report driven
