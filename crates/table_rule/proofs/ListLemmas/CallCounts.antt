-- A job has no more calls than nodes.
use Rattle.std.proofs.Common.{ℕ, zero, suc, ◌≡◌, ◌≤◌, ◌+◌, ap, Option as Maybe, None, Some, arith}
use Rattle.core_model.specs.State.{CoreJob}
use Rattle.core_model.specs.Operations.{op_in}
use Rattle.core_model.specs.Measure.{call_count, one_if_call, one_if, total}
use Rattle.core_model.specs.Words.{Kind, LeafNode}

pub one_at_most : (job : CoreJob) (kind : Maybe Kind) → one_if_call job kind ≤ 1
one_at_most job (Some (LeafNode u)) = elim (op_in (job.act u)) as (λ o. one_if o ≤ 1) [ None ↦ omega arith | Some op ↦ omega arith ]
one_at_most job _ = omega arith

total_few : (f : ℕ → ℕ) (n : ℕ) → ((m : ℕ) → f m ≤ 1) → total f n ≤ n
total_few f zero h = omega arith
total_few f (suc n) h = let a = h n in let b = total_few f n h in omega (arith, a, b)

pub room_few : (job : CoreJob) → call_count job ≤ job.plan.count
room_few job = total_few (λ n. one_if_call job (job.plan.kind n)) job.plan.count (λ n. one_at_most job (job.plan.kind n))

pub total_next : (f : ℕ → ℕ) (n : ℕ) → total f (n + 1) ≡ f n + total f n
total_next f n = let e : n + 1 ≡ suc n = omega arith in ap (total f) e
