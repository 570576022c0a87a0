use Rattle.rank_nodes.specs.Nodes.{depth}
use Rattle.rank_tree.proofs.cut.+cut_at.Given as goal

abbrev pub decreases-cut_at : goal.decreases-cut_at
decreases-cut_at l = depth l.tree
