use Rattle.rank_nodes.specs.Nodes.{depth}
use Rattle.rank_nodes.proofs.remove.+remove_in.Given as goal

abbrev pub decreases-remove_in : goal.decreases-remove_in
decreases-remove_in l = depth l.tree.now
