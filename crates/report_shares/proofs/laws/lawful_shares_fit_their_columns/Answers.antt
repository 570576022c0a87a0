use Rattle.report_shares.proofs.Apart.{fit_columns}
use Rattle.report_shares.proofs.laws.lawful_shares_fit_their_columns.Goals as goal

pub returns : goal.returns
returns c = fit_columns
