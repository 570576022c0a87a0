-- What runs and schedules reach.
use Rattle.std.proofs.Common.{ℕ, ◌≡◌, ◌+◌, ◌%◌, true, Option, Some, None, List, [], ◌∷◌, ◌++◌, refl, subst}
use Rattle.core_model.proofs.Words.{Event, Claim, CoreJob, CoreState, is_done}
use Rattle.core_model.specs.State.{opening_state, opening_core}
use Rattle.core_model.specs.Choice.{choice, choice_steal}
use Rattle.core_model.specs.Runs.{TurnsReach, IsReached, IsStep, Step, ReachesFrom, IsTurnOf, Drives, over, by_schedule, by_robin, step_of, steps_of, driven}

-- one step more leads from where a run leads to
one_more : (job : CoreJob) (first mid last : CoreState) (steps : List Step) (w : ℕ) (event : Event) → ReachesFrom job first steps mid → IsStep job mid w event last
    → ReachesFrom job first (steps ++ record { worker = w; event = event } ∷ []) last
one_more job first mid last [] w event same step = (last, subst (λ (x : CoreState). IsStep job x w event last) same step, refl)
one_more job first mid last (s ∷ steps) w event run step = (run.0, run.1, one_more job run.0 mid last steps w event run.2 step)

pub step_reached : (job : CoreJob) (old new : CoreState) (w : ℕ) (event : Event) → IsReached job old → IsStep job old w event new → IsReached job new
step_reached job old new w event before step =
    (before.0 ++ record { worker = w; event = event } ∷ [], one_more job opening_core old new before.0 w event before.1 step)

pub turns_reach : (job : CoreJob) (first last : CoreState) (steps : List Step) → TurnsReach job first steps last → ReachesFrom job first steps last
turns_reach job first last [] same = same
turns_reach job first last (step ∷ steps) run = (run.0, run.2, turns_reach job run.0 last steps run.3)

pub drives_done : (job : CoreJob) (s last : CoreState) (schedule : List ℕ) (robin : ℕ) → Drives job s schedule robin last → is_done (last.state.node 0) ≡ true
drives_done job s last schedule robin (over done) = done
drives_done job s last schedule robin (by_schedule {next = next} {worker = worker} {robin = on} {schedule = rest} going turn drives) = drives_done job next last rest on drives
drives_done job s last schedule robin (by_robin {next = next} going turn drives) = drives_done job next last [] ((robin + 1) % job.workers) drives

pub driven_done : (job : CoreJob) (schedule : List ℕ) (s : CoreState) → driven job schedule s → is_done (s.state.node 0) ≡ true
driven_done job schedule s drives = drives_done job opening_core s schedule 0 drives

-- the step of a turn, and those of the turns after it
turn_leads : (job : CoreJob) (s next last : CoreState) (w : ℕ) (o : Option Event) (steps : List Step) → choice job s w ≡ o → IsTurnOf job s w o next
    → TurnsReach job next steps last → TurnsReach job s (step_of w o ++ steps) last
turn_leads job s next last w None steps chosen same rest = subst (λ (x : CoreState). TurnsReach job x steps last) same rest
turn_leads job s next last w (Some event) steps chosen step rest = (next, chosen, step, rest)

-- the steps of the run of a schedule are those of turns
pub drives_lead : (job : CoreJob) (s last : CoreState) (schedule : List ℕ) (robin : ℕ) (drives : Drives job s schedule robin last)
    → TurnsReach job s (steps_of job s last schedule robin drives) last
drives_lead job s last schedule robin (over done) = refl
drives_lead job s last schedule robin (by_schedule {next = next} {worker = worker} {robin = on} {schedule = rest} going turn drives) =
    turn_leads job s next last worker (choice job s worker) (steps_of job next last rest on drives) refl turn (drives_lead job next last rest on drives)
drives_lead job s last schedule robin (by_robin {next = next} going turn drives) =
    turn_leads job s next last robin (choice job s robin) (steps_of job next last [] ((robin + 1) % job.workers) drives) refl turn
    (drives_lead job next last [] ((robin + 1) % job.workers) drives)

pub driven_reached : (job : CoreJob) (schedule : List ℕ) (s : CoreState) → driven job schedule s → IsReached job s
driven_reached job schedule s drives =
    (steps_of job opening_core s schedule 0 drives, turns_reach job opening_core s (steps_of job opening_core s schedule 0 drives) (drives_lead job opening_core s schedule 0 drives))

-- at the opening worker 0 claims the root
pub opening_own : (job : CoreJob) → choice job opening_core 0 ≡ Some (Claim 0)
unfolding opening_core opening_state
opening_own job = refl

-- and of two workers the other one steals it
pub opening_stolen : (job : CoreJob) → job.workers ≡ 2 → choice job opening_core 1 ≡ Some (Claim 0)
unfolding opening_core opening_state choice_steal
opening_stolen job two = rw two refl
