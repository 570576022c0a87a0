use Rattle.report_shares.proofs.Totals.{are_all_ticks}
use Rattle.report_shares.proofs.laws.lawful_shares_are_all_ticks.Goals as goal

pub returns : goal.returns
returns c = are_all_ticks
