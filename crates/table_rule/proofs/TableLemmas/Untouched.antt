-- A table whose seats have made no event shows the opening state.
use Rattle.std.proofs.Common.{ℕ, ◌≡◌, ◌<◌, ◌≤◌, List, [], ◌∷◌, ◌++◌, arith, sym, ap, ◌∙◌}
use Rattle.std.proofs.lemmas.Bool.Decides.{nat_tests}
use mathlib.Core.Option.{some}
use lib.ListN.{get_elem?}
use Rattle.core_model.specs.declared.event.Event.{Event}
use Rattle.core_model.specs.State.{CoreJob, CoreState, opening_state, opening_core}
use Rattle.core_model.specs.Runs.{Step, Reaches}
use Rattle.table_rule.specs.declared.view.View.{View}
use Rattle.table_rule.specs.Shows.{TableState, event_if, events_by, Shows}

no_cons : (l : List Event) (x : Event) → x ∷ l ≡ [] → ⊥
no_cons l x e = absurd (cc)

step_of_own : (step : Step) → event_if step.worker step ≡ step.event ∷ []
step_of_own step = grind (arith, nat_tests)

pub no_event : (job : CoreJob) (room : ℕ) (t : TableState) (o : Shows job room t)
    → ((w : ℕ) → w < job.workers → (id : ℕ) × (v : View) × (get_elem? t.views id ≡ some v) × (v.own.worker ≤ w) × (w < v.to) × (v.own.events ≡ []))
    → (steps : List Step) → o.trace ≡ steps → Reaches job steps (record { state = o.state; ready = o.ready }) → o.state ≡ opening_state
unfolding opening_core
no_event job room t o none_made [] e h = ap (λ (c : CoreState). c.state) h
no_event job room t o none_made (s ∷ rest) e h =
    let seat = none_made s.worker h.1.happens.worker_in in
    let made : events_by s.worker o.trace ≡ [] = o.events seat.0 seat.1 s.worker seat.2 seat.3 seat.4 ∙ seat.5 in
    let one : event_if s.worker s ++ events_by s.worker rest ≡ [] = ap (λ (l : List Step). events_by s.worker l) (sym e) ∙ made in
    absurd (no_cons (events_by s.worker rest) s.event (ap (λ (l : List Event). l ++ events_by s.worker rest) (sym (step_of_own s)) ∙ one))
