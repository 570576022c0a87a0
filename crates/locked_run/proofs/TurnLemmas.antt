-- A turn that is given the work due, right after the turn that asked for it.
use Rattle.std.proofs.Common.{ℕ, ◌≡◌, ◌∙◌, ap, subst, sym, Option, None, Some, Result, Ok, Err, IfOk}
use Rattle.sp_order.specs.Jobs.{JobValue}
use Rattle.core_model.specs.State.{CoreState, CoreJob, core_job}
use Rattle.core_model.specs.declared.event.Event.{Event}
use Rattle.batcher_core.specs.declared.turn.Turn.{Turn}
use Rattle.batcher_core.specs.declared.turn.Turn.TheVariants.{Spin}
use Rattle.batcher_core.specs.Cores.{CoreView, job_in, state_in, turn_answer, IsTurnResult}

job_same : (old new : CoreView) → (new.job ≡ old.job) × (new.workers ≡ old.workers) → job_in new ≡ job_in old
job_same old new same =
    ap (λ (job : JobValue). core_job job new.workers) same.0 ∙ ap (core_job old.job) same.1

-- the asking turn changed nothing, so the second one started from the state before both
pub given_turn : {E : Type 0} (old mid : CoreView) (w : ℕ) (new : CoreState) (result : Result Turn E)
    → (mid.job ≡ old.job) × (mid.workers ≡ old.workers) → state_in mid ≡ state_in old
    → IfOk result (λ t. IsTurnResult t (job_in mid) (state_in mid) w new) → IfOk result (λ t. IsTurnResult t (job_in old) (state_in old) w new)
given_turn old mid w new result same still made =
    subst (λ (s : CoreState). IfOk result (λ t. IsTurnResult t (job_in old) s w new)) still
    (subst (λ (job : CoreJob). IfOk result (λ t. IsTurnResult t job (state_in mid) w new)) (job_same old mid same) made)

no_spin : (due : Option ℕ) (done : ℕ) (chosen : Option Event) (steps : ℕ) → turn_answer due (Some done) chosen ≡ Spin steps → ⊥
no_spin None done None steps is = absurd cc
no_spin None done (Some event) steps is = absurd cc
no_spin (Some due) done None steps is = absurd cc
no_spin (Some due) done (Some event) steps is = absurd cc

-- a turn that is given the work asks for none
pub given_asks_none : {E : Type 0} (result : Result Turn E) (due : Option ℕ) (done : ℕ) (chosen : Option Event) (P : ℕ → Type 0)
    → IfOk result (λ t. t ≡ turn_answer due (Some done) chosen) → IfOk result (λ t. (steps : ℕ) → t ≡ Spin steps → P steps)
given_asks_none (Ok turn) due done chosen P is = λ steps spin. absurd (no_spin due done chosen steps (sym is ∙ spin))
given_asks_none (Err e) due done chosen P is = tt

-- a turn that asks for work asks for what is due
pub asked_tells : (due : Option ℕ) (chosen : Option Event) (turn : Turn) (n steps : ℕ) → turn ≡ turn_answer due None chosen → turn ≡ Spin n → Spin n ≡ Spin steps → due ≡ Some steps
asked_tells None None turn n steps is was spin = absurd (cc)
asked_tells None (Some event) turn n steps is was spin = absurd (cc)
asked_tells (Some due) chosen turn n steps is was spin = cc
