-- A run by turns keeps the inductive invariant, and has no more events than the opening's count.
use Rattle.std.proofs.Common.{ℕ, ◌≢◌, ◌<◌, ◌≤◌, ◌+◌, ◌*◌, None, List, [], ◌∷◌, length, arith, subst, sym, ap}
use Rattle.core_model.proofs.Words.{IsPlan, Event, CoreJob, CoreState}
use Rattle.core_model.specs.State.{opening_state, opening_core}
use Rattle.core_model.proofs.Inductive.Parts.{InductiveParts}
use Rattle.core_model.proofs.Inductive.Lists.{InductiveLists}
use Rattle.core_model.specs.Measure.{measure, call_count}
use Rattle.core_model.specs.Runs.{IsStep, Step, TurnsReach}
use Rattle.core_model.proofs.InvariantLemmas.EachEvent.{event_keeps}
use Rattle.core_model.proofs.InvariantLemmas.Opening.{opening_kept}
use Rattle.core_model.proofs.InvariantLemmas.ReadyLists.{opening_lists, lists_after}
use Rattle.core_model.proofs.MeasureLemmas.Lowers.{turn_lowers, opening_fuel}

-- the inductive invariant of a state and of its lists stays from step to step
pub step_parts : (job : CoreJob) (old new : CoreState) (w : ℕ) (event : Event) → IsPlan job.plan → InductiveParts job old.state → IsStep job old w event new → InductiveParts job new.state
step_parts job old new w event laws h step = event_keeps job old.state new.state w event laws h step.happens

pub step_lists : (job : CoreJob) (old new : CoreState) (w : ℕ) (event : Event) → IsPlan job.plan → InductiveParts job old.state → InductiveLists job.workers old.state.node old.ready → IsStep job old w event new
    → InductiveLists job.workers new.state.node new.ready
step_lists job old new w event laws h lists step =
    subst (InductiveLists job.workers new.state.node) (sym step.lists)
    (lists_after job old.state w old.ready laws h step.happens.worker_in lists event new.state step.happens.needs step.happens.does)

-- the events of a run by turns, and those left after it, are no more than those left before it
pub turns_are_counted : (job : CoreJob) (first last : CoreState) (steps : List Step) → IsPlan job.plan → InductiveParts job first.state → InductiveLists job.workers first.state.node first.ready
    → TurnsReach job first steps last → length steps + measure job last.state ≤ measure job first.state
turns_are_counted job first last [] laws h lists same = let e = ap (λ (s : CoreState). measure job s.state) same in omega (arith, e)
turns_are_counted job first last (step ∷ steps) laws h lists run =
    let next = run.0 in
    let rest : length steps + measure job last.state ≤ measure job run.0.state =
    turns_are_counted job run.0 last steps laws (step_parts job first run.0 step.worker step.event laws h run.2) (step_lists job first run.0 step.worker step.event laws h lists run.2) run.3 in
    let less : measure job run.0.state < measure job first.state =
    turn_lowers job first step.worker step.event run.0.state laws run.2.happens.worker_in h run.1 run.2.happens.needs run.2.happens.does in
    omega (arith, rest, less)

opening_turns : (job : CoreJob) (s : CoreState) (steps : List Step) → IsPlan job.plan → job.plan.kind 0 ≢ None → 0 < job.workers → TurnsReach job opening_core steps s
    → length steps + measure job s.state ≤ measure job opening_state
unfolding opening_core
opening_turns job s steps laws root some run = turns_are_counted job opening_core s steps laws (opening_kept job laws root) (opening_lists job.workers some) run

pub run_is_short : (job : CoreJob) (steps : List Step) (s : CoreState) → IsPlan job.plan → job.plan.kind 0 ≢ None → 0 < job.workers → TurnsReach job opening_core steps s
    → length steps ≤ 6 * job.plan.count + call_count job * (job.workers + 6)
run_is_short job steps s laws root some run =
    let all = opening_turns job s steps laws root some run in
    let bound = opening_fuel job in
    omega (arith, all, bound)
