use Rattle.std.proofs.Common.{arith}
use Rattle.tree_nodes.proofs.TreeLemmas.Trees.{set_depth}
use Rattle.tree23.proofs.tree.Tree23.insert.Goals as goal

pub insert_at_root-requires-clause-fits : goal.insert_at_root-requires-clause-fits
insert_at_root-requires-clause-fits c = omega (arith, c.self.invariant.height_is, set_depth _ c.self.invariant.set)
