-- The invariant of the workers' tasks and of the marks of parallel blocks.
use Rattle.core_model.specs.Operations.{IsLeaf}
use Rattle.core_model.specs.Tasks.{is_done, names}
use Rattle.core_model.specs.Words.{Progress, Taken, Waiting, Task, Ended, Half, Handed, Idle, Kept, Run, Started, Whole, IsSide, Nodes, ParNode, SeqNode}
use Rattle.std.specs.Prelude.{Some, true, ℕ, ◌+◌, ◌<◌, ◌≡◌, ◌≢◌, ◌⊎◌}

-- some worker's task names the node
abbrev pub IsNamed : (ℕ → Task) → ℕ → Type 0
IsNamed task n = (w : ℕ) × (names (task w) ≡ Some n)

-- `count` is 1 if the fact holds, and 0 if it does not
abbrev pub IsCount : Type 0 → ℕ → Type 0
IsCount Fact count = (Fact × (count ≡ 1)) ⊎ ((Fact → ⊥) × (count ≡ 0))

-- the node is done, and no task names it
abbrev pub IsPassed : (ℕ → Progress) → (ℕ → Task) → ℕ → Type 0
IsPassed node task n = (is_done (node n) ≡ true) × (IsNamed task n → ⊥)

-- what a task implies for the nodes and marks
abbrev pub TaskFits : Nodes → (ℕ → Progress) → (ℕ → ℕ) → Task → Type 0
TaskFits plan node mark Idle = Unit {0}
-- the node is taken, and its sides are waiting
TaskFits plan node mark (Run n) = (node n ≡ Taken) × ((m : ℕ) → IsSide plan n m → node m ≡ Waiting)
-- a taken parallel block whose left side is waiting and whose right side is not
TaskFits plan node mark (Half p) =
    (l : ℕ) × (r : ℕ) × (plan.kind p ≡ Some (ParNode l r)) × (node p ≡ Taken) × (node l ≡ Waiting) × (node r ≢ Waiting)
-- a taken leaf
TaskFits plan node mark (Started n s) = IsLeaf (plan.kind n) × (node n ≡ Taken)
TaskFits plan node mark (Kept n s) = IsLeaf (plan.kind n) × (node n ≡ Taken)
TaskFits plan node mark (Ended n s e) = IsLeaf (plan.kind n) × (node n ≡ Taken)
-- a done node that is a side of a taken block; if it is the left side of a series, the right side is waiting
TaskFits plan node mark (Whole n) =
    (is_done (node n) ≡ true) × (p : ℕ) × IsSide plan p n × (node p ≡ Taken)
    × ((r : ℕ) → plan.kind p ≡ Some (SeqNode n r) → node r ≡ Waiting)
-- a taken parallel block at which both sides have arrived
TaskFits plan node mark (Handed p) = (l : ℕ) × (r : ℕ) × (plan.kind p ≡ Some (ParNode l r)) × (node p ≡ Taken) × (mark p ≡ 2)

-- The tasks of the workers.
pub record TasksInvariant (plan : Nodes) (node : ℕ → Progress) (mark : ℕ → ℕ) (task : ℕ → Task) : Type 0 where
  -- each node is named by at most one task
  pub apart : (v w n : ℕ) → names (task v) ≡ Some n → names (task w) ≡ Some n → v ≡ w
  -- each task fits the nodes and marks
  pub says : (w : ℕ) → TaskFits plan node mark (task w)
  -- a task names each taken leaf
  pub leaf : (n : ℕ) → IsLeaf (plan.kind n) → node n ≡ Taken → IsNamed task n
  -- A taken series named by no task has a left side that is not waiting. If the left side is done, some task is `Whole`
  -- of it, or the right side is not waiting. If the right side is done, some task is `Whole` of it.
  pub series : (p l r : ℕ) → plan.kind p ≡ Some (SeqNode l r) → node p ≡ Taken → (IsNamed task p → ⊥)
      → (node l ≢ Waiting)
      × (is_done (node l) ≡ true → ((w : ℕ) × (task w ≡ Whole l)) ⊎ (node r ≢ Waiting))
      × (is_done (node r) ≡ true → (w : ℕ) × (task w ≡ Whole r))
  -- a taken parallel block named by no task has no waiting side, and its mark is below 2
  pub parallel : (p l r : ℕ) → plan.kind p ≡ Some (ParNode l r) → node p ≡ Taken → (IsNamed task p → ⊥)
      → (node l ≢ Waiting) × (node r ≢ Waiting) × (mark p < 2)
  -- a parallel block's mark counts its sides that are done and named by no task
  pub marks : (p l r : ℕ) → plan.kind p ≡ Some (ParNode l r)
      → (of_left : ℕ) × (of_right : ℕ) × IsCount (IsPassed node task l) of_left × IsCount (IsPassed node task r) of_right
      × (mark p ≡ of_left + of_right)
