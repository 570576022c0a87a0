use Rattle.std.proofs.Common.{arith}
use Rattle.sp_order.specs.Precedence.{tree_of}
use Rattle.sp_order.proofs.Depths.{tree_depth_below_leaves}
use Rattle.sp_order.proofs.job.Job.depth.Goals as goal

pub depth-requires : goal.depth-requires
depth-requires c =
    let has_leaves = rw c.in-Some.is at c.self.invariant.leaves in
    omega (arith, tree_depth_below_leaves (tree_of c.in-Some.shape), c.self.invariant.most)

pub returns-in-Some-clause-most : goal.returns-in-Some-clause-most
returns-in-Some-clause-most c =
    let has_leaves = rw c.in-Some.is at c.self.invariant.leaves in
    omega (arith, tree_depth_below_leaves (tree_of c.in-Some.shape), c.self.invariant.most, c.depth.ensures)
