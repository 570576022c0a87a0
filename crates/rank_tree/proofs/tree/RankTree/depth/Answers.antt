use Rattle.std.proofs.Common.{arith}
use Rattle.rank_nodes.proofs.TreeLemmas.Depths.{entries_at_least, entries_at_most}
use Rattle.rank_nodes.proofs.TreeLemmas.Trees.{map_depth_small}
use Rattle.rank_tree.proofs.tree.RankTree.depth.Goals as goal

pub overflow_cast-result : goal.overflow_cast-result
overflow_cast-result c = omega (arith, c.self.invariant.height_is, map_depth_small _ c.self.invariant.is_map)

pub returns-clause-least : goal.returns-clause-least
returns-clause-least c = rw (c.self.invariant.height_is, ← c.self.view_is) (entries_at_least _ c.self.invariant.is_map.tree)

pub returns-clause-most : goal.returns-clause-most
returns-clause-most c = rw (c.self.invariant.height_is, ← c.self.view_is) (entries_at_most _ c.self.invariant.is_map.tree)
