-- The invariant of every reachable state.
use Rattle.core_model.specs.Invariant.Book.{BookInvariant}
use Rattle.core_model.specs.Invariant.Hold.{HoldInvariant}
use Rattle.core_model.specs.Invariant.Membership.{MembershipInvariant}
use Rattle.core_model.specs.Invariant.Nodes.{NodesInvariant}
use Rattle.core_model.specs.Invariant.ReadyLists.{ReadyListsInvariant}
use Rattle.core_model.specs.Invariant.Statuses.{StatusesInvariant}
use Rattle.core_model.specs.Invariant.Tasks.{TasksInvariant}
use Rattle.core_model.specs.Invariant.Ticks.{TicksInvariant}
use Rattle.core_model.specs.Invariant.Values.{ValuesInvariant}
use Rattle.core_model.specs.State.{CoreJob, CoreState, State}
use Rattle.core_model.specs.Words.{NotCalled, Free, Idle}
use Rattle.std.specs.Prelude.{ℕ, ◌-◌, ◌≡◌, ◌≤◌}
pub mod Nodes
pub mod Tasks
pub mod Ticks
pub mod Statuses
pub mod Hold
pub mod Book
pub mod Membership
pub mod Values
pub mod ReadyLists

-- the parts that do not mention the lists of ready nodes
pub record Parts (job : CoreJob) (s : State) : Type 0 where
  pub nodes : NodesInvariant job.plan s.node
  pub tasks : TasksInvariant job.plan s.node s.mark s.task
  pub ticks : TicksInvariant job.plan job.workers s.node s.tick s.task
  pub statuses : StatusesInvariant job s
  pub hold : HoldInvariant job.workers s.status s.call s.hold
  pub book : BookInvariant job s
  pub members : MembershipInvariant job s
  pub values : ValuesInvariant job s
  -- a number that is no worker's has no task, status or call
  pub beyond : (w : ℕ) → job.workers ≤ w → (s.task w ≡ Idle) × (s.status w ≡ Free) × (s.call w ≡ NotCalled)

-- the whole invariant: the parts and the lists
pub record Invariant (job : CoreJob) (s : CoreState) : Type 0 where
  pub parts : Parts job s.state
  pub lists : ReadyListsInvariant job.workers s.state.node s.ready
