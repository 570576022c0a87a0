-- Each state that can be reached has the invariant.
use Rattle.std.proofs.Common.{◌≢◌, ◌<◌, ℕ, None, List, [], ◌∷◌, sym, subst}
use Rattle.core_model.proofs.Words.{IsPlan, CoreJob, CoreState, Event}
use Rattle.core_model.specs.State.{opening_core}
use Rattle.core_model.specs.Invariant.{Invariant}
use Rattle.core_model.proofs.Inductive.Parts.{InductiveParts}
use Rattle.core_model.proofs.Inductive.Lists.{InductiveLists}
use Rattle.core_model.specs.Runs.{IsStep, Step, ReachesFrom, IsReached}
use Rattle.core_model.proofs.InvariantLemmas.EachEvent.{event_keeps}
use Rattle.core_model.proofs.InvariantLemmas.Opening.{opening_kept}
use Rattle.core_model.proofs.Inductive.PartsHold.{parts_stand}
use Rattle.core_model.proofs.InvariantLemmas.ReadyLists.{opening_lists, lists_after, lists_fit}

-- the inductive invariant of a state and of its lists
record Carried (job : CoreJob) (s : CoreState) : Type 0 where
  parts : InductiveParts job s.state
  lists : InductiveLists job.workers s.state.node s.ready

-- the opening state
opening_carried : (job : CoreJob) → IsPlan job.plan → job.plan.kind 0 ≢ None → 0 < job.workers → Carried job opening_core
unfolding opening_core
opening_carried job laws root some = record { parts = opening_kept job laws root; lists = opening_lists job.workers some }

-- an event
event_carried : (job : CoreJob) (old new : CoreState) (w : ℕ) (event : Event) → IsPlan job.plan → Carried job old → IsStep job old w event new → Carried job new
event_carried job old new w event laws h step = record {
  parts = event_keeps job old.state new.state w event laws h.parts step.happens;
  lists = subst (InductiveLists job.workers new.state.node) (sym step.lists)
      (lists_after job old.state w old.ready laws h.parts step.happens.worker_in h.lists event new.state step.happens.needs step.happens.does);
}

-- a run
run_carried : (job : CoreJob) (first last : CoreState) (steps : List Step) → IsPlan job.plan → Carried job first → ReachesFrom job first steps last → Carried job last
run_carried job first last [] laws h same = subst (Carried job) (sym same) h
run_carried job first last (step ∷ steps) laws h run =
    run_carried job run.0 last steps laws (event_carried job first run.0 step.worker step.event laws h run.1) run.2

carried_holds : (job : CoreJob) (s : CoreState) → Carried job s → Invariant job s
carried_holds job s h = record { parts = parts_stand job s.state h.parts; lists = lists_fit job.workers s.state.node s.ready h.lists }

module _ (job : CoreJob) (laws : IsPlan job.plan) (root : job.plan.kind 0 ≢ None) (some : 0 < job.workers) where
  reached_carried : (s : CoreState) → IsReached job s → Carried job s
  reached_carried s reached = run_carried job opening_core s reached.0 laws (opening_carried job laws root some) reached.1

  pub opening_invariant : Invariant job opening_core
  opening_invariant = carried_holds job opening_core (opening_carried job laws root some)

  -- the inductive invariant of its state, without the lists
  pub reached_parts : (s : CoreState) → IsReached job s → InductiveParts job s.state
  reached_parts s reached = (reached_carried s reached).parts

  -- so the invariant holds
  pub reached_invariant : (s : CoreState) → IsReached job s → Invariant job s
  reached_invariant s reached = carried_holds job s (reached_carried s reached)
