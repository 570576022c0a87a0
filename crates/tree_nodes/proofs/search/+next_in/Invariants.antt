use Rattle.tree_nodes.specs.Nodes.{depth}
use Rattle.tree_nodes.proofs.search.+next_in.Given as goal

abbrev pub decreases-next_in : goal.decreases-next_in
decreases-next_in l = depth l.tree.now
