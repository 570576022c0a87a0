-- The depth of a tree is below the number of its leaves.
use Rattle.std.proofs.Common.{◌<◌, arith}
use Rattle.sp_order.specs.Precedence.{Tree, leaf, seq, par, leaves}
use Rattle.sp_order.specs.Depth.{tree_depth}

pub leaves_above_0 : (tree : Tree) → 0 < leaves tree
leaves_above_0 leaf = omega arith
leaves_above_0 (seq a b) = omega (arith, leaves_above_0 a)
leaves_above_0 (par a b) = omega (arith, leaves_above_0 a)

pub tree_depth_below_leaves : (tree : Tree) → tree_depth tree < leaves tree
tree_depth_below_leaves leaf = omega arith
tree_depth_below_leaves (seq a b) =
    omega (arith, tree_depth_below_leaves a, tree_depth_below_leaves b, leaves_above_0 a, leaves_above_0 b)
tree_depth_below_leaves (par a b) =
    omega (arith, tree_depth_below_leaves a, tree_depth_below_leaves b, leaves_above_0 a, leaves_above_0 b)
