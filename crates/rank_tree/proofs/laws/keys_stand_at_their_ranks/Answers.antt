use Rattle.rank_tree.proofs.Ranking.{stands, past}
use Rattle.rank_tree.proofs.laws.keys_stand_at_their_ranks.Goals as goal

pub returns-clause-found : goal.returns-clause-found
returns-clause-found c = stands

pub returns-clause-none : goal.returns-clause-none
returns-clause-none c = past
