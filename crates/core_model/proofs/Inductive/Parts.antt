-- What the proofs carry of a state. It implies the invariant's parts.
use Rattle.std.specs.Prelude.{ℕ, ◌≡◌, ◌≤◌, true, Option, Some}
use Rattle.core_model.proofs.Words.{LeafNode, Idle, CoreJob, State}
use Rattle.core_model.specs.Operations.{IsCall, place_of, value_under}
use Rattle.core_model.specs.Invariant.Statuses.{is_taken_by}
use Rattle.core_model.specs.Invariant.Hold.{is_published, HoldInvariant}
use Rattle.core_model.proofs.Inductive.Nodes.{InductiveNodes, InductiveTasks}
use Rattle.core_model.proofs.Inductive.Ticks.{stamps, InductiveTicks}
use Rattle.core_model.proofs.Inductive.Book.{StatusFits, InductiveBook, worker_at, booked_by, valued_by}

-- All that the proofs carry, with the worker whose task names each node.
pub record InductiveParts (job : CoreJob) (s : State) : Type 0 where
  pub holder : ℕ → Option ℕ
  pub nodes : InductiveNodes job.plan s.node
  pub tasks : InductiveTasks job.plan s.node s.mark s.task holder
  pub beyond : (w : ℕ) → job.workers ≤ w → s.task w ≡ Idle
  pub ticks : InductiveTicks job.plan job.workers s.node s.tick (stamps s.node s.task holder)
  pub statuses : (w : ℕ) → StatusFits job s.book (s.task w) (s.status w) (s.call w) (is_taken_by s.hold w)
  pub hold : HoldInvariant job.workers s.status s.call s.hold
  pub book : InductiveBook job s.book s.objects (stamps s.node s.task holder)
  pub booked : (n leaf : ℕ) → job.plan.kind n ≡ Some (LeafNode leaf) → IsCall job leaf
      → worker_at (place_of s.book leaf) ≡ booked_by (s.node n) (holder n) s.task s.status s.call (is_published s.hold)
  pub values : (n leaf : ℕ) → job.plan.kind n ≡ Some (LeafNode leaf) → valued_by (s.node n) (holder n) s.task ≡ true
      → (value : ℕ) × (s.value n ≡ Some value) × (value_under job s.book leaf ≡ Some value)
