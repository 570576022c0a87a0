use Rattle.rank_nodes.specs.Nodes.{depth}
use Rattle.rank_tree.proofs.search.+rank_in.Given as goal

abbrev pub decreases-rank_in : goal.decreases-rank_in
decreases-rank_in l = depth l.tree.now
