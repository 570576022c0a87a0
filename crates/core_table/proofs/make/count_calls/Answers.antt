use Rattle.std.proofs.Common.{ℕ, ◌≡◌, arith, ap, ◌∙◌}
use Rattle.sp_order.specs.Jobs.{job_tree}
use Rattle.sp_order.specs.Preorder.{nodes_of}
use Rattle.core_model.specs.State.{core_job}
use Rattle.core_model.specs.Measure.{total, one_if_call}
use Rattle.table_rule.proofs.ListLemmas.CallCounts.{one_at_most, total_next}
use Rattle.core_table.proofs.make.count_calls.Goals as goal

pub overflow_add-count : goal.overflow_add-count
overflow_add-count c =
    let tree = job_tree c.args.job.now in let job = core_job c.args.job.now 0 in
    let few = c.loop-node.invariant.few in let e = c.calls_at-count.ensures 0 in let a = one_at_most job ((nodes_of tree).kind c.loop-node.node) in
    omega (arith, few, e, a, c.requires)

pub loop-node-preserved : goal.loop-node-preserved
loop-node-preserved c =
    let tree = job_tree c.args.job.now in
    let few = c.loop-node.invariant.few in let e = c.calls_at-count.ensures 0 in let a = one_at_most (core_job c.args.job.now 0) ((nodes_of tree).kind c.loop-node.node) in record {
      few = omega (arith, few, e, a);
      counted = λ workers.
          let f : ℕ → ℕ = λ n. one_if_call (core_job c.args.job.now workers) ((nodes_of tree).kind n) in
          let old = c.loop-node.invariant.counted workers in let new = c.calls_at-count.ensures workers in
          let more = total_next f c.loop-node.node in omega (arith, old, new, more);
    }

pub returns : goal.returns
returns c workers =
    let tree = job_tree c.args.job.now in
    let f : ℕ → ℕ = λ n. one_if_call (core_job c.args.job.now workers) ((nodes_of tree).kind n) in
    let all : c.loop-node.node ≡ (nodes_of tree).count = omega (arith, c.requires.0) in
    c.loop-node.invariant.counted workers ∙ ap (total f) all
