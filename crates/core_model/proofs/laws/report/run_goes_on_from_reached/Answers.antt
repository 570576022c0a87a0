use Rattle.core_model.proofs.RunLemmas.Joined.{goes_on}
use Rattle.core_model.proofs.laws.report.run_goes_on_from_reached.Goals as goal

pub returns : goal.returns
returns c job leaf_total state report reached run = goes_on job leaf_total state report reached run
