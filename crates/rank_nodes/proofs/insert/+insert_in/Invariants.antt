use Rattle.rank_nodes.specs.Nodes.{depth}
use Rattle.rank_nodes.proofs.insert.+insert_in.Given as goal

abbrev pub decreases-insert_in : goal.decreases-insert_in
decreases-insert_in l = depth l.tree.now
