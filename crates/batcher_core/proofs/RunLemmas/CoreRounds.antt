-- The round-robin turns left in a core.
use Rattle.std.proofs.Common.{ℕ, ◌≡◌, ◌<◌, ◌+◌, ◌%◌, false, arith, sym, subst}
use Rattle.sp_order.specs.Jobs.{job_tree}
use Rattle.sp_order.specs.Preorder.{nodes_of}
use Rattle.core_model.proofs.Words.{IsPlanOf, CoreJob}
use Rattle.core_model.specs.Runs.{IsTurn}
use Rattle.core_model.proofs.RunLemmas.Rounds.{turns_left, turns_fewer}
use Rattle.batcher_core.specs.Cores.{CoreView, job_in_with, state_in, is_over_in}
use Rattle.core_state.specs.Code.Representation.{RepInvariant}
use Rattle.core_state.proofs.CodeLemmas.KeptParts.{kept_parts}
use Rattle.batcher_core.proofs.RunLemmas.Taken.{SameJob, job_same, goes_on}

-- each turn lowers their number
pub round_fewer : {work : ℕ → ℕ} (first core next : CoreView) (workers robin : ℕ) → SameJob first core → RepInvariant work core.job core.workers core.table → IsPlanOf (nodes_of (job_tree core.job)) (job_tree core.job)
    → workers ≡ first.workers → robin < workers → is_over_in core ≡ false → core.spent ≡ false → IsTurn (job_in_with work core) (state_in core) robin (state_in next)
    → turns_left (job_in_with work first) (state_in next) ((robin + 1) % workers) < turns_left (job_in_with work first) (state_in core) robin
round_fewer {work} first core next workers robin same fits plan all below more unspent turn =
    let few = same.1 in
    let fewer = turns_fewer (job_in_with work core) (job_tree core.job) (state_in core) (state_in next) robin fits.laws fits.sources plan (kept_parts core.job core.workers core.table fits) fits.inv.lists (omega (arith, below, all, few)) (goes_on _ _ more unspent) turn in
    let first_fewer : turns_left (job_in_with work first) (state_in next) ((robin + 1) % first.workers) < turns_left (job_in_with work first) (state_in core) robin =
    subst (λ (job : CoreJob). turns_left job (state_in next) ((robin + 1) % job.workers) < turns_left job (state_in core) robin) (job_same work first core same) fewer in
    subst (λ (n : ℕ). turns_left (job_in_with work first) (state_in next) ((robin + 1) % n) < turns_left (job_in_with work first) (state_in core) robin) (sym all) first_fewer
