use Rattle.std.proofs.Common.{◌∙◌, arith}
use Rattle.rank_nodes.proofs.TreeLemmas.Depths.{count_is}
use Rattle.rank_nodes.proofs.TreeLemmas.Trees.{map_count}
use Rattle.rank_tree.proofs.tree.RankTree.len.Goals as goal

pub returns-clause-entries : goal.returns-clause-entries
returns-clause-entries c = rw (← c.self.view_is) (c.size.ensures ∙ count_is c.self.inside.root.tree)

pub returns-clause-small : goal.returns-clause-small
returns-clause-small c = omega (arith, c.size.ensures, map_count _ c.self.invariant.is_map)
