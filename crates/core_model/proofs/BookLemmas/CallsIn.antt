-- The leaves of a job that call have numbers below that of its nodes.
use Rattle.std.proofs.Common.{ℕ, zero, suc, ◌≡◌, ◌≢◌, ◌<◌, None, List, [], ◌∷◌, length, get_or, arith, refl}
use Rattle.core_model.proofs.Words.{Act, Work, leaves, IsPlanOf, core_job_with}
use Rattle.sp_order.specs.Jobs.{JobValue, job_tree}
use Rattle.sp_order.specs.Preorder.{nodes_of}
use Rattle.core_model.specs.Operations.{op_in, IsCall}
use Rattle.core_model.proofs.BookLemmas.LeavesIn.{leaves_few}

-- what is past the acts does not call
pub call_within : (acts : List Act) (u : ℕ) → op_in (get_or acts u (Work 0)) ≢ None → u < length acts
call_within [] u call = absurd (call refl)
call_within (act ∷ acts) zero call = omega arith
call_within (act ∷ acts) (suc u) call = let h = call_within acts u call in omega (arith, h)

pub calls_in : (work : ℕ → ℕ) (job : JobValue) (workers : ℕ) → IsPlanOf (nodes_of (job_tree job)) (job_tree job) → length job.acts ≡ leaves (job_tree job)
    → (u : ℕ) → IsCall (core_job_with work job workers) u → u < (nodes_of (job_tree job)).count
calls_in work job workers stands len u call =
    let within = call_within job.acts u call in
    let few = leaves_few (job_tree job) in
    omega (arith, within, few, len, stands.count)
