use Rattle.job_builder.proofs.Unnamed.{acts_stay, no_names}
use Rattle.job_builder.proofs.laws.jobs_without_names_keep_their_acts.Goals as goal

pub returns : goal.returns
returns c = record {
  acts = λ acts objects unnamed none. acts_stay acts objects unnamed none;
  names = λ objects none. no_names objects none;
}
