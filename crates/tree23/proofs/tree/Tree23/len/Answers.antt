use Rattle.std.proofs.Common.{arith}
use Rattle.tree_nodes.proofs.TreeLemmas.Trees.{set_length}
use Rattle.tree23.proofs.tree.Tree23.len.Goals as goal

pub size-requires-clause-fits : goal.size-requires-clause-fits
size-requires-clause-fits c = omega (arith, set_length _ c.self.invariant.set)

pub returns-clause-small : goal.returns-clause-small
returns-clause-small c = omega (arith, c.size.ensures, set_length _ c.self.invariant.set)
