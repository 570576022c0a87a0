-- The effect of the turns of a run.
use Rattle.std.proofs.Common.{ℕ, ◌≡◌, ◌<◌, ◌+◌, ◌%◌, ◌&&◌, not, Bool, true, false, List, [], sym, ◌∙◌, ap, subst, inl, inr, length, drop, slice_index_or}
use Rattle.std.proofs.lemmas.List.{drop_more}
use Rattle.sp_order.specs.Jobs.{JobValue}
use Rattle.core_model.proofs.Words.{CoreJob, CoreState, core_job_with, is_done}
use Rattle.core_model.specs.Runs.{IsTurn, Drives, over, by_schedule, by_robin}
use Rattle.batcher_core.specs.Cores.{CoreView, job_in_with, state_in, is_over_in}
use Rattle.core_model.proofs.RunLemmas.OneRun.{over_or}

-- the job of a core stays the same
abbrev pub SameJob : CoreView → CoreView → Type 0
SameJob old new = (new.job ≡ old.job) × (new.workers ≡ old.workers)

pub job_same : (work : ℕ → ℕ) (old new : CoreView) → SameJob old new → job_in_with work new ≡ job_in_with work old
job_same work old new same = ap (λ (job : JobValue). core_job_with work job new.workers) same.0 ∙ ap (core_job_with work old.job) same.1

pub same_since : (first old new : CoreView) → SameJob first old → SameJob old new → SameJob first new
same_since first old new h g = (g.0 ∙ h.0, g.1 ∙ h.1)

-- a core that is not spent and not over has more to do
pub goes_on : (spent done : Bool) → (not spent && done) ≡ false → spent ≡ false → done ≡ false
goes_on false done h unspent = h
goes_on true done h unspent = absurd cc

-- once the root is done, the rest of the schedule is ignored
pub over_before : (job : CoreJob) (s last : CoreState) (schedule rest : List ℕ) (robin : ℕ) → is_done (s.state.node 0) ≡ true → Drives job s rest robin last → Drives job s schedule robin last
over_before job s last schedule rest robin done drives = elim (over_or job s last rest robin drives) [
  | inl end ↦ subst (λ (n : CoreState). Drives job s schedule robin n) (sym end.1) (over done)
  | inr on ↦ (let e = sym done ∙ on.0 in absurd cc)
]

-- a turn of a core that goes on, before the turns that are left
module _ (work : ℕ → ℕ) (first core next : CoreView) (same : SameJob first core) (more : is_over_in core ≡ false) (unspent : core.spent ≡ false) where
  first_turn : (w : ℕ) → IsTurn (job_in_with work core) (state_in core) w (state_in next) → IsTurn (job_in_with work first) (state_in core) w (state_in next)
  first_turn w turn = subst (λ (job : CoreJob). IsTurn job (state_in core) w (state_in next)) (job_same work first core same) turn

  pub scheduled_before : (schedule : List ℕ) (i : ℕ) → i < length schedule → IsTurn (job_in_with work core) (state_in core) (slice_index_or schedule i 0) (state_in next)
      → (last : CoreState) → Drives (job_in_with work first) (state_in next) (drop (i + 1) schedule) 0 last → Drives (job_in_with work first) (state_in core) (drop i schedule) 0 last
  scheduled_before schedule i below turn last drives =
      subst (λ (rest : List ℕ). Drives (job_in_with work first) (state_in core) rest 0 last) (sym (drop_more schedule i 0 below))
      (by_schedule (goes_on _ _ more unspent) (first_turn (slice_index_or schedule i 0) turn) drives)

  pub robin_before : (workers robin : ℕ) → workers ≡ first.workers → IsTurn (job_in_with work core) (state_in core) robin (state_in next)
      → (last : CoreState) → Drives (job_in_with work first) (state_in next) [] ((robin + 1) % workers) last → Drives (job_in_with work first) (state_in core) [] robin last
  robin_before workers robin all turn last drives =
      by_robin (goes_on _ _ more unspent) (first_turn robin turn)
      (subst (λ (n : ℕ). Drives (job_in_with work first) (state_in next) [] ((robin + 1) % n) last) all drives)
