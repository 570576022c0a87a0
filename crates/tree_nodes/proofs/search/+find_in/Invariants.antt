use Rattle.tree_nodes.specs.Nodes.{depth}
use Rattle.tree_nodes.proofs.search.+find_in.Given as goal

abbrev pub decreases-find_in : goal.decreases-find_in
decreases-find_in l = depth l.tree.now
