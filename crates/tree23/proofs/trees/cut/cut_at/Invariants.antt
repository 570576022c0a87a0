use Rattle.std.proofs.Common.{◌≡◌}
use Rattle.tree_nodes.specs.Nodes.{keys, depth, IsTree}
use Rattle.tree23.specs.Code.Cuts.{whole_keys, IsLeft}
use Rattle.tree23.proofs.trees.cut.cut_at.Given as goal

abbrev pub invariant-loop-height : goal.invariant-loop-height
invariant-loop-height l = record {
  tree_is : IsTree l.tree;
  height_is : l.height ≡ depth l.tree;
  left : IsLeft l.key (whole_keys (keys l.fn.rooted.tree) l.fn.sides) (keys l.tree) l.sides;
}

abbrev pub decreases-loop-height : goal.decreases-loop-height
decreases-loop-height l = l.height
