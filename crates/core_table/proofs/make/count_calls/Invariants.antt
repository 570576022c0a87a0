use Rattle.std.proofs.Common.{◌≡◌, ◌≤◌, ℕ}
use Rattle.sp_order.specs.Jobs.{job_tree}
use Rattle.sp_order.specs.Preorder.{nodes_of}
use Rattle.core_model.specs.State.{core_job}
use Rattle.core_model.specs.Measure.{total, one_if_call}
use Rattle.core_table.proofs.make.count_calls.Given as goal

abbrev pub invariant-loop-node : goal.invariant-loop-node
invariant-loop-node l = record {
  few : l.count ≤ l.node;
  counted : (workers : ℕ) → l.count ≡ total (λ n. one_if_call (core_job l.job workers) ((nodes_of (job_tree l.job)).kind n)) l.node;
}
