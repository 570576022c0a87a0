use Rattle.table_rule.proofs.ListLemmas.Standing.{stands_longer}
use Rattle.table_rule.proofs.laws.entries_stay_where_they_stand.Goals as goal

pub returns : goal.returns
returns c front book batch place entry begins stands = stands_longer front book batch place entry begins stands
