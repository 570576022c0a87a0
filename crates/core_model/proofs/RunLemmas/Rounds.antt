-- The turns that are left, round robin: an event lowers the count of those that are left, and an idle turn brings the
-- next event nearer.
use Rattle.std.proofs.Common.{ℕ, zero, suc, ◌≡◌, ◌≢◌, ◌<◌, ◌≤◌, ◌+◌, ◌-◌, ◌*◌, ◌%◌, Bool, true, false, Option, Some, None, arith, refl, sym, ◌∙◌, ap, subst, inl, inr}
use Rattle.std.specs.Option.{is_some}
use Rattle.std.proofs.lemmas.Bool.{cases_lt}
use Rattle.std.proofs.lemmas.Option.{same_Some}
use Rattle.std.proofs.Math.Nat.{add-mod_right, mod-add-mod, mod-eq_of_lt, mul-le-mul_right}
use Rattle.core_model.proofs.Words.{Tree, IsPlan, IsPlanOf, Event, CoreJob, CoreState, is_done}
use Rattle.core_model.proofs.Inductive.Parts.{InductiveParts}
use Rattle.core_model.specs.LeafSources.{HasSources}
use Rattle.core_model.specs.Invariant.ReadyLists.{ReadyListsInvariant}
use Rattle.core_model.specs.Measure.{measure}
use Rattle.core_model.specs.Choice.{choice, least_below}
use Rattle.core_model.specs.Runs.{IsTurnOf, IsTurn}
use Rattle.core_model.proofs.ChoiceLemmas.Searches.{least_stays, least_in}
use Rattle.core_model.proofs.ChoiceLemmas.Search.{least_is_chosen, no_least}
use Rattle.core_model.proofs.ChoiceLemmas.Progress.{some_turn}
use Rattle.core_model.proofs.MeasureLemmas.Lowers.{turn_lowers}

-- the worker that is d places after this one has an event
abbrev pub acts_after : CoreJob → CoreState → ℕ → ℕ → Bool
acts_after job s robin d = is_some (choice job s ((robin + d) % job.workers))

abbrev pub or_zero : Option ℕ → ℕ
or_zero None = 0
or_zero (Some n) = n

-- how many turns, from this worker's on, are idle before one makes an event
abbrev pub idle_turns : CoreJob → CoreState → ℕ → ℕ
idle_turns job s robin = or_zero (least_below (acts_after job s robin) job.workers)

abbrev pub turns_left : CoreJob → CoreState → ℕ → ℕ
turns_left job s robin = measure job s.state * (job.workers + 1) + idle_turns job s robin

-- the least number is no more than one that is chosen
least_most : (chosen : ℕ → Bool) (bound least n : ℕ) (o : Option ℕ) → least_below chosen bound ≡ Some least → chosen n ≡ true → n < bound → least_below chosen (suc n) ≡ o → least ≤ n
least_most chosen bound least n None e here below is = let e : chosen n ≡ false = no_least chosen (suc n) is n (omega arith) in absurd cc
least_most chosen bound least n (Some x) e here below is =
    let in_ = least_in chosen (suc n) x is in
    let f = least_stays chosen (suc n) bound x is (omega (arith, below)) in
    let same : x ≡ least = same_Some x least (sym f ∙ e) in
    omega (arith, in_, same)

least_at_most : (chosen : ℕ → Bool) (bound n : ℕ) (o : Option ℕ) → chosen n ≡ true → n < bound → least_below chosen bound ≡ o → or_zero o ≤ n
least_at_most chosen bound n None here below is = omega arith
least_at_most chosen bound n (Some least) here below is = least_most chosen bound least n (least_below chosen (suc n)) is here below refl

few_idle : (chosen : ℕ → Bool) (bound : ℕ) (o : Option ℕ) → least_below chosen bound ≡ o → or_zero o ≤ bound
few_idle chosen bound None is = omega arith
few_idle chosen bound (Some least) is = let below = least_in chosen bound least is in omega (arith, below)

some_is_some : {A : Type 0} (o : Option A) → o ≢ None → is_some o ≡ true
some_is_some None some = absurd (some refl)
some_is_some (Some x) some = refl

none_is_none : {A : Type 0} (o : Option A) → o ≡ None → is_some o ≡ true → ⊥
none_is_none None none some = absurd cc
none_is_none (Some x) none some = absurd cc

module _ (job : CoreJob) (s : CoreState) (robin : ℕ) (below : robin < job.workers) where
  -- a worker with an event is some number of workers after this one
  after_this : (v : ℕ) → v < job.workers → choice job s v ≢ None → (d : ℕ) × (d < job.workers) × (acts_after job s robin d ≡ true)
  after_this v in_ some = elim (cases_lt v robin) [
    | inl before ↦ (
        let e : robin + (v + job.workers - robin) ≡ v + job.workers = omega (arith, below) in
        let f : (robin + (v + job.workers - robin)) % job.workers ≡ v = rw e (add-mod_right v job.workers ∙ mod-eq_of_lt in_) in
        (v + job.workers - robin, omega (arith, before, below), rw f (some_is_some (choice job s v) some))
        )
    | inr past ↦ (
        let e : robin + (v - robin) ≡ v = omega (arith, past) in
        let f : (robin + (v - robin)) % job.workers ≡ v = rw e (mod-eq_of_lt in_) in
        (v - robin, omega (arith, in_), rw f (some_is_some (choice job s v) some))
        )
  ]

  next_after : (d : ℕ) → acts_after job s robin (suc d) ≡ true → acts_after job s ((robin + 1) % job.workers) d ≡ true
  next_after d here =
      let e : ((robin + 1) % job.workers + d) % job.workers ≡ (robin + suc d) % job.workers =
      mod-add-mod (robin + 1) job.workers d ∙ ap (λ (n : ℕ). n % job.workers) (omega arith) in
      rw e here

  -- after an idle turn the next event is nearer
  nearer_by : (o : Option ℕ) → least_below (acts_after job s robin) job.workers ≡ o → choice job s robin ≡ None
      → (d : ℕ) → d < job.workers → acts_after job s robin d ≡ true → idle_turns job s ((robin + 1) % job.workers) < or_zero o
  nearer_by None is none d in_ here = let e = no_least (acts_after job s robin) job.workers is d in_ in absurd cc
  nearer_by (Some zero) is none d in_ here =
      let found = least_is_chosen (acts_after job s robin) job.workers zero is in
      let e : (robin + 0) % job.workers ≡ robin = ap (λ (n : ℕ). n % job.workers) (omega arith) ∙ mod-eq_of_lt below in
      absurd (none_is_none (choice job s robin) none (subst (λ (n : ℕ). is_some (choice job s n) ≡ true) e found))
  nearer_by (Some (suc n)) is none d in_ here =
      let found = least_is_chosen (acts_after job s robin) job.workers (suc n) is in
      let few = least_in (acts_after job s robin) job.workers (suc n) is in
      let most = least_at_most (acts_after job s ((robin + 1) % job.workers)) job.workers n (least_below (acts_after job s ((robin + 1) % job.workers)) job.workers)
      (next_after n found) (omega (arith, few)) refl in
      omega (arith, most)

  pub nearer : choice job s robin ≡ None → (v : ℕ) → v < job.workers → choice job s v ≢ None → idle_turns job s ((robin + 1) % job.workers) < idle_turns job s robin
  nearer none v in_ some =
      let after = after_this v in_ some in
      nearer_by (least_below (acts_after job s robin) job.workers) refl none after.0 after.1 after.2

-- one less, times a number, leaves room for less than that number
room : (f g k i j : ℕ) → f < g → i < k → f * k + i < g * k + j
room f g k i j less few =
    let a : (f + 1) * k ≤ g * k = mul-le-mul_right k (omega (arith, less)) in
    let b : (f + 1) * k ≡ f * k + k = omega arith in
    omega (arith, a, b, few)

module _ (job : CoreJob) (tree : Tree) (old new : CoreState) (robin : ℕ) (laws : IsPlan job.plan) (sources : HasSources job) (plan : IsPlanOf job.plan tree) (parts : InductiveParts job old.state)
    (lists : ReadyListsInvariant job.workers old.state.node old.ready) (below : robin < job.workers) (going : is_done (old.state.node 0) ≡ false) where
  fewer_by : (o : Option Event) → choice job old robin ≡ o → IsTurnOf job old robin o new → turns_left job new ((robin + 1) % job.workers) < turns_left job old robin
  fewer_by None none turn =
      let some = some_turn job tree old laws sources plan parts lists going in
      let nearer = nearer job old robin below none some.0 some.1 some.2 in
      rw turn (omega (arith, nearer))
  fewer_by (Some event) chosen turn =
      let less = turn_lowers job old robin event new.state laws below parts chosen turn.happens.needs turn.happens.does in
      let few = few_idle (acts_after job new ((robin + 1) % job.workers)) job.workers (least_below (acts_after job new ((robin + 1) % job.workers)) job.workers) refl in
      room (measure job new.state) (measure job old.state) (job.workers + 1) (idle_turns job new ((robin + 1) % job.workers)) (idle_turns job old robin) less (omega (arith, few))

  -- each turn lowers the count of those that are left
  pub turns_fewer : IsTurn job old robin new → turns_left job new ((robin + 1) % job.workers) < turns_left job old robin
  turns_fewer turn = fewer_by (choice job old robin) refl turn
