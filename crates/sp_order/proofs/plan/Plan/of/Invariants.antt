use Rattle.std.proofs.Common.{◌≡◌, ◌-◌, ◌≤◌, length}
use Rattle.sp_order.specs.Precedence.{leaves, leaf}
use Rattle.sp_order.specs.Code.PlanBuilder.{lists_in, lists_of, with_all, HaveParents}
use Rattle.std.specs.Option.{unwrap_or}
use Rattle.sp_order.proofs.plan.Plan.of.Given as goal

abbrev pub invariant-loop-pending : goal.invariant-loop-pending
invariant-loop-pending l = record {
  listed : with_all l.stack.items (lists_in l.builder) ≡ lists_of (unwrap_or l.job.shape leaf);
  parents : HaveParents l.stack.items (lists_in l.builder);
  most : leaves (unwrap_or l.job.shape leaf) ≤ 20000;
}

abbrev pub decreases-loop-pending : goal.decreases-loop-pending
decreases-loop-pending l = 40000 - length l.builder.kinds.items
