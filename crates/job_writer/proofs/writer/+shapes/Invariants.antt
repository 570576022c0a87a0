use Rattle.std.proofs.Common.{◌+◌, ◌*◌, max}
use Rattle.sp_order.specs.Precedence.{tree_of}
use Rattle.sp_order.specs.Depth.{tree_depth}
use Rattle.job_writer.proofs.writer.+shapes.Given as goal

abbrev pub decreases-push_shape : goal.decreases-push_shape
decreases-push_shape l = 2 * tree_depth (tree_of l.shape.now)

abbrev pub decreases-push_sides : goal.decreases-push_sides
decreases-push_sides l = 2 * max (tree_depth (tree_of l.left.now)) (tree_depth (tree_of l.right.now)) + 1
