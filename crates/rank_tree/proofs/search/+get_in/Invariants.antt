use Rattle.rank_nodes.specs.Nodes.{depth}
use Rattle.rank_tree.proofs.search.+get_in.Given as goal

abbrev pub decreases-get_in : goal.decreases-get_in
decreases-get_in l = depth l.tree.now
