-- A job has no more calls than leaves.
use Rattle.std.proofs.Common.{ℕ, ◌≡◌, ◌≤◌, ◌+◌, arith, ap}
use Rattle.sp_order.specs.declared.node.Move.{Move}
use Rattle.sp_order.specs.declared.node.Move.TheVariants.{Root}
use Rattle.sp_order.specs.Precedence.{Tree, leaf, seq, par, leaves}
use Rattle.sp_order.specs.PlanOf.{OccursAt, IsPlanOf, node_count}
use Rattle.core_model.specs.State.{CoreJob}
use Rattle.core_model.specs.Measure.{call_count, one_if_call, total}
use Rattle.table_rule.proofs.ListLemmas.CallCounts.{one_at_most, total_next}

calls_in_tree : (job : CoreJob) (tree : Tree) (node first : ℕ) (after : Move) → OccursAt job.plan tree node first after
    → total (λ n. one_if_call job (job.plan.kind n)) (node + node_count tree) ≤ total (λ n. one_if_call job (job.plan.kind n)) node + leaves tree
calls_in_tree job leaf node first after stands =
    let next = total_next (λ n. one_if_call job (job.plan.kind n)) node in
    let one = one_at_most job (job.plan.kind node) in
    omega (arith, next, one)
calls_in_tree job (seq left right) node first after stands =
    let f = λ (n : ℕ). one_if_call job (job.plan.kind n) in
    let next = total_next f node in
    let none : f node ≡ 0 = ap (one_if_call job) stands.0 in
    let a = calls_in_tree job left (node + 1) first _ stands.2 in
    let b = calls_in_tree job right (node + 1 + node_count left) (first + leaves left) _ stands.3 in
    let e : node + 1 + node_count left + node_count right ≡ node + (node_count left + node_count right + 1) = omega arith in
    let whole = ap (total f) e in
    omega (arith, next, none, a, b, whole)
calls_in_tree job (par left right) node first after stands =
    let f = λ (n : ℕ). one_if_call job (job.plan.kind n) in
    let next = total_next f node in
    let none : f node ≡ 0 = ap (one_if_call job) stands.0 in
    let a = calls_in_tree job left (node + 1) first _ stands.2 in
    let b = calls_in_tree job right (node + 1 + node_count left) (first + leaves left) _ stands.3 in
    let e : node + 1 + node_count left + node_count right ≡ node + (node_count left + node_count right + 1) = omega arith in
    let whole = ap (total f) e in
    omega (arith, next, none, a, b, whole)

pub calls_few : (job : CoreJob) (tree : Tree) → IsPlanOf job.plan tree → call_count job ≤ leaves tree
calls_few job tree is =
    let all = calls_in_tree job tree 0 0 Root is.stands in
    let e : 0 + node_count tree ≡ job.plan.count = omega (arith, is.count) in
    let whole = ap (total (λ n. one_if_call job (job.plan.kind n))) e in
    omega (arith, all, whole)
