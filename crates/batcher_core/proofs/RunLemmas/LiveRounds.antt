-- A round of the live workers: a turn of each, before the turns that are left.
use Rattle.std.proofs.Common.{ℕ, ◌≡◌, ◌<◌, ◌≤◌, ◌+◌, ◌%◌, ◌||◌, Bool, true, false, Option, Some, None, arith, refl, inl, inr, sym, ◌∙◌, ap, subst, zero-add}
use Rattle.std.specs.Option.{is_some}
use Rattle.std.proofs.lemmas.Bool.{cases_eq, or_parts}
use Rattle.std.proofs.Math.Nat.{add-mod_right, mod-eq_of_lt}
use Rattle.core_model.proofs.Words.{IsPlan, CoreJob, CoreState, is_done}
use Rattle.core_state.specs.Words.{Event}
use Rattle.core_model.specs.Choice.{choice}
use Rattle.core_state.specs.Code.Representation.{RepInvariant}
use Rattle.batcher_core.specs.Cores.{CoreView, job_in_with, state_in, is_over_in}
use Rattle.core_model.specs.Invariant.{Invariant}
use Rattle.core_model.specs.LeafSources.{HasSources}
use Rattle.core_model.specs.Measure.{measure}
use Rattle.core_model.specs.Runs.{IsTurnOf, IsTurn}
use Rattle.core_model.specs.Stopped.{NoLiveEvent, LiveDrive, over, stuck, by_live, past_stopped}
use Rattle.core_model.proofs.ChoiceLemmas.Choices.{none_has_no_event}
use Rattle.core_model.proofs.Inductive.FromParts.{parts_carried}
use Rattle.core_model.proofs.MeasureLemmas.Lowers.{turn_lowers}
use Rattle.batcher_core.proofs.RunLemmas.Taken.{SameJob, job_same, goes_on}

-- the round ends where the next one begins
pub round_end : (workers i : ℕ) → 0 < workers → i ≡ workers → i % workers ≡ 0
round_end workers i some end = ap (λ (n : ℕ). n % workers) (end ∙ sym (zero-add workers)) ∙ (add-mod_right 0 workers ∙ mod-eq_of_lt some)

-- the turn of worker `i` of the round, or its being passed over
module _ (work : ℕ → ℕ) (first core next : CoreView) (live : ℕ → Bool) (same : SameJob first core) (more : is_over_in core ≡ false) (unspent : core.spent ≡ false) (i : ℕ) (below : i < first.workers) where
  at_worker : i % first.workers ≡ i
  at_worker = mod-eq_of_lt below

  pub turn_before : live i ≡ true → IsTurn (job_in_with work core) (state_in core) i (state_in next)
      → (last : CoreState) → LiveDrive (job_in_with work first) live (state_in next) ((i + 1) % first.workers) last → LiveDrive (job_in_with work first) live (state_in core) (i % first.workers) last
  turn_before on turn last drives =
      rw at_worker
      (by_live (goes_on _ _ more unspent) on (subst (λ (job : CoreJob). IsTurn job (state_in core) i (state_in next)) (job_same work first core same) turn) drives)

  pub passed_before : live i ≡ false
      → (last : CoreState) → LiveDrive (job_in_with work first) live (state_in core) ((i + 1) % first.workers) last → LiveDrive (job_in_with work first) live (state_in core) (i % first.workers) last
  passed_before off last drives = rw at_worker (past_stopped (goes_on _ _ more unspent) off drives)

-- what a turn does to the measure, by whether it made an event
abbrev Lowers : CoreJob → CoreState → CoreState → Bool → Type 0
Lowers job s new moved = (measure job new.state ≤ measure job s.state) × (moved ≡ true → measure job new.state < measure job s.state)

module _ (job : CoreJob) (s new : CoreState) (w : ℕ) (laws : IsPlan job.plan) (below : w < job.workers) (h : Invariant job s) where
  lowers_by : (o : Option Event) → choice job s w ≡ o → IsTurnOf job s w o new → Lowers job s new (is_some o)
  lowers_by None chosen turn = (rw turn (omega arith), λ moved. absurd cc)
  lowers_by (Some event) chosen turn =
      let less = turn_lowers job s w event new.state laws below (parts_carried job s.state h.parts) chosen turn.happens.needs turn.happens.does in
      (omega (arith, less), λ moved. less)

  pub turn_lowers_or_not : IsTurn job s w new → (moved : Bool) → moved ≡ is_some (choice job s w) → Lowers job s new moved
  turn_lowers_or_not turn moved is = rw is (lowers_by (choice job s w) refl turn)

-- a turn that made no event was that of a worker that has none, and left the state as it was
module _ (job : CoreJob) (s new : CoreState) (w : ℕ) where
  rests_by : (o : Option Event) → choice job s w ≡ o → IsTurnOf job s w o new → is_some o ≡ false → (choice job s w ≡ None) × (new ≡ s)
  rests_by None chosen turn none = (chosen, turn)
  rests_by (Some event) chosen turn none = absurd cc

  pub turn_rests : IsTurn job s w new → (moved : Bool) → moved ≡ is_some (choice job s w) → moved ≡ false → (choice job s w ≡ None) × (new ≡ s)
  turn_rests turn moved is none = rests_by (choice job s w) refl turn (sym is ∙ none)

-- the live workers below this number have no event
abbrev pub RestBelow : CoreJob → (ℕ → Bool) → CoreState → ℕ → Type 0
RestBelow job live s i = (v : ℕ) → v < i → live v ≡ true → choice job s v ≡ None

-- so after a round without an event, no live worker can make one
pub none_live : (job : CoreJob) (live : ℕ → Bool) (s : CoreState) → IsPlan job.plan → HasSources job → Invariant job s → RestBelow job live s job.workers → NoLiveEvent job live s
none_live job live s laws sources h rest w on event next step =
    let among = step.happens.worker_in in
    none_has_no_event job s w laws sources among (parts_carried job s.state h.parts) h.lists (rest w among on) event step.happens.needs

-- the whole round, without an event
pub round_rests : {work : ℕ → ℕ} (first core : CoreView) (live : ℕ → Bool) (i : ℕ) → SameJob first core → RepInvariant work core.job core.workers core.table → i ≡ first.workers
    → RestBelow (job_in_with work first) live (state_in core) i → NoLiveEvent (job_in_with work first) live (state_in core)
round_rests {work} first core live i same fits end rest =
    let job = job_same work first core same in
    none_live (job_in_with work first) live (state_in core) (subst (λ (j : CoreJob). IsPlan j.plan) job fits.laws) (subst HasSources job fits.sources) (subst (λ (j : CoreJob). Invariant j (state_in core)) job fits.inv)
    (subst (RestBelow (job_in_with work first) live (state_in core)) end rest)

-- one more stopped worker is passed over
pub rests_past : (job : CoreJob) (live : ℕ → Bool) (s : CoreState) (i : ℕ) → live i ≡ false → RestBelow job live s i → RestBelow job live s (i + 1)
rests_past job live s i off rest v below on = elim (cases_eq v i) [
  | inl same ↦ (let e = sym (ap live same ∙ off) ∙ on in absurd cc)
  | inr other ↦ rest v (omega (arith, below, other)) on
]

-- two consecutive parts of a round
lowers_both : (before moved : Bool) (a b c : ℕ) → (b ≤ a) × (before ≡ true → b < a) → (c ≤ b) × (moved ≡ true → c < b) → (c ≤ a) × ((before || moved) ≡ true → c < a)
lowers_both true moved a b c h g = (let low = h.0 in let then' = g.0 in omega (arith, low, then'), λ _. let less = h.1 refl in let then' = g.0 in omega (arith, less, then'))
lowers_both false true a b c h g = (let low = h.0 in let then' = g.0 in omega (arith, low, then'), λ _. let low = h.0 in let less = g.1 refl in omega (arith, low, less))
lowers_both false false a b c h g = (let low = h.0 in let then' = g.0 in omega (arith, low, then'), λ e. absurd cc)

-- the turn of worker i, after those before it in the round
module _ {work : ℕ → ℕ} (first core next : CoreView) (live : ℕ → Bool) (i : ℕ) (same : SameJob first core) (fits : RepInvariant work core.job core.workers core.table) (below : i < core.workers)
    (turn : IsTurn (job_in_with work core) (state_in core) i (state_in next)) (moved : Bool) (is : moved ≡ is_some (choice (job_in_with work core) (state_in core) i)) (before : Bool) where
  pub lowers_after : Lowers (job_in_with work first) (state_in first) (state_in core) before → Lowers (job_in_with work first) (state_in first) (state_in next) (before || moved)
  lowers_after h =
      let this = turn_lowers_or_not (job_in_with work core) (state_in core) (state_in next) i fits.laws below fits.inv turn moved is in
      let mine : Lowers (job_in_with work first) (state_in core) (state_in next) moved = subst (λ (j : CoreJob). Lowers j (state_in core) (state_in next) moved) (job_same work first core same) this in
      lowers_both before moved (measure (job_in_with work first) (state_in first).state) (measure (job_in_with work first) (state_in core).state) (measure (job_in_with work first) (state_in next).state) h mine

  pub rests_after : (before ≡ false → RestBelow (job_in_with work first) live (state_in core) i) → (before || moved) ≡ false → RestBelow (job_in_with work first) live (state_in next) (i + 1)
  rests_after rest none v among on =
      let both = or_parts before moved none in
      let this = turn_rests (job_in_with work core) (state_in core) (state_in next) i turn moved is both.1 in
      let mine : choice (job_in_with work first) (state_in core) i ≡ None = subst (λ (j : CoreJob). choice j (state_in core) i ≡ None) (job_same work first core same) this.0 in
      subst (λ (s : CoreState). choice (job_in_with work first) s v ≡ None) (sym this.1)
      (elim (cases_eq v i) [
        | inl here ↦ ap (choice (job_in_with work first) (state_in core)) here ∙ mine
        | inr other ↦ rest both.0 v (omega (arith, among, other)) on
      ])

-- a run ends when the core is over, or when no live worker can make an event
pub ends_here : (job : CoreJob) (live : ℕ → Bool) (core : CoreView) (robin : ℕ) → core.spent ≡ false → (is_over_in core ≡ false → NoLiveEvent job live (state_in core))
    → LiveDrive job live (state_in core) robin (state_in core)
ends_here job live core robin unspent none = by_end (is_done ((state_in core).state.node 0)) refl where
  by_end : (done : Bool) → is_done ((state_in core).state.node 0) ≡ done → LiveDrive job live (state_in core) robin (state_in core)
  by_end true is = over is
  by_end false is = stuck is (none (rw (unspent, is) refl))
