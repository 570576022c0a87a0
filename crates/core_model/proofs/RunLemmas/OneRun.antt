-- A schedule drives a job to one state only.
use Rattle.std.proofs.Common.{ℕ, ◌≡◌, ◌+◌, ◌%◌, ◌⊎◌, true, false, Option, Some, None, List, [], ◌∷◌, refl, inl, inr, subst, sym, ◌∙◌}
use Rattle.core_model.proofs.Words.{Event, CoreJob, CoreState, is_done}
use Rattle.core_model.specs.State.{opening_core}
use Rattle.core_model.specs.Choice.{choice}
use Rattle.core_model.specs.Runs.{IsStep, IsTurnOf, IsTurn, Drives, over, by_schedule, by_robin, driven}
use Rattle.core_model.proofs.RunLemmas.OneBatch.{one_state}

core_same : (a b : CoreState) → a.state ≡ b.state → a.ready ≡ b.ready → a ≡ b
core_same a b state ready = λ i. record { state = state i; ready = ready i }

-- a step makes one state of a state
pub one_step : (job : CoreJob) (s : CoreState) (w : ℕ) (event : Event) (a b : CoreState) → IsStep job s w event a → IsStep job s w event b → a ≡ b
one_step job s w event a b h g = core_same a b (one_state job s.state w event a.state b.state h.happens.does g.happens.does) (h.lists ∙ sym g.lists)

one_turn_of : (job : CoreJob) (s : CoreState) (w : ℕ) (o : Option Event) (a b : CoreState) → IsTurnOf job s w o a → IsTurnOf job s w o b → a ≡ b
one_turn_of job s w None a b h g = h ∙ sym g
one_turn_of job s w (Some event) a b h g = one_step job s w event a b h g

-- and so does a turn
pub one_turn : (job : CoreJob) (s : CoreState) (w : ℕ) (a b : CoreState) → IsTurn job s w a → IsTurn job s w b → a ≡ b
one_turn job s w a b h g = one_turn_of job s w (choice job s w) a b h g

-- the first turn of a drive that goes on
abbrev GoesOn : CoreJob → CoreState → List ℕ → ℕ → CoreState → Type 0
GoesOn job s [] robin last = (next : CoreState) × IsTurn job s robin next × Drives job next [] ((robin + 1) % job.workers) last
GoesOn job s (worker ∷ schedule) robin last = (next : CoreState) × IsTurn job s worker next × Drives job next schedule robin last

-- a drive is over, or goes on
abbrev OverOr : CoreJob → CoreState → List ℕ → ℕ → CoreState → Type 0
OverOr job s schedule robin last =
    ((is_done (s.state.node 0) ≡ true) × (last ≡ s)) ⊎ ((is_done (s.state.node 0) ≡ false) × GoesOn job s schedule robin last)

pub over_or : (job : CoreJob) (s last : CoreState) (schedule : List ℕ) (robin : ℕ) → Drives job s schedule robin last → OverOr job s schedule robin last
over_or job s last schedule robin (over done) = inl (done, refl)
over_or job s last schedule robin (by_schedule {next = next} going turn drives) = inr (going, (next, turn, drives))
over_or job s last schedule robin (by_robin {next = next} going turn drives) = inr (going, (next, turn, drives))

one_drive : (job : CoreJob) (s a b : CoreState) (schedule : List ℕ) (robin : ℕ) → Drives job s schedule robin a → Drives job s schedule robin b → a ≡ b
one_drive job s a b schedule robin (over done) g = elim (over_or job s b schedule robin g) [
  | inl end ↦ sym end.1
  | inr on ↦ (let e = sym done ∙ on.0 in absurd cc)
]
one_drive job s a b schedule robin (by_schedule {next = next} {worker = worker} {robin = after} {schedule = rest} going turn drives) g = elim (over_or job s b schedule robin g) [
  | inl end ↦ (let e = sym end.0 ∙ going in absurd cc)
  | inr on ↦ one_drive job next a b rest after drives
      (subst (λ (n : CoreState). Drives job n rest after b) (one_turn job s worker on.1.0 next on.1.1 turn) on.1.2)
]
one_drive job s a b schedule robin (by_robin {next = next} going turn drives) g = elim (over_or job s b schedule robin g) [
  | inl end ↦ (let e = sym end.0 ∙ going in absurd cc)
  | inr on ↦ one_drive job next a b [] ((robin + 1) % job.workers) drives
      (subst (λ (n : CoreState). Drives job n [] ((robin + 1) % job.workers) b) (one_turn job s robin on.1.0 next on.1.1 turn) on.1.2)
]

pub one_driven : (job : CoreJob) (schedule : List ℕ) (a b : CoreState) → driven job schedule a → driven job schedule b → a ≡ b
one_driven job schedule a b h g = one_drive job opening_core a b schedule 0 h g
