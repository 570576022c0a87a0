use Rattle.std.proofs.Common.{arith}
use Rattle.tree_nodes.proofs.TreeLemmas.Depths.{keys_at_least, keys_at_most}
use Rattle.tree_nodes.proofs.TreeLemmas.Trees.{set_depth_small}
use Rattle.tree23.proofs.tree.Tree23.depth.Goals as goal

pub overflow_cast-result : goal.overflow_cast-result
overflow_cast-result c = omega (arith, c.self.invariant.height_is, set_depth_small _ c.self.invariant.set)

pub returns-clause-least : goal.returns-clause-least
returns-clause-least c = rw (c.self.invariant.height_is, ← c.self.view_is) (keys_at_least _ c.self.invariant.set.tree)

pub returns-clause-most : goal.returns-clause-most
returns-clause-most c = rw (c.self.invariant.height_is, ← c.self.view_is) (keys_at_most _ c.self.invariant.set.tree)
