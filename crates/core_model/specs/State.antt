-- The model's state, as functions of node and worker numbers.
use Rattle.core_model.specs.Words.{Entry, Progress, Ready, Waiting, CallState, NotCalled, Status, Free, Task, Idle, Act, Nodes}
use Rattle.seq_objects.specs.Stores.{Store, opening_store}
use Rattle.seq_objects.specs.Spin.{spin_of}
use Rattle.batch_history.specs.Operations.{act_of, source_of}
use Rattle.sp_order.specs.Jobs.{JobValue, job_tree}
use Rattle.sp_order.specs.Preorder.{nodes_of}
use Rattle.std.specs.Prelude.{Bool, List, None, Option, [], if◌then◌else◌, ℕ, ◌==◌, ◌∷◌}

-- `f` updated to `x` at `n`
abbrev pub put : {A : Type 0} → (ℕ → A) → ℕ → A → ℕ → A
put f n x m = if m == n then x else f m

-- A job in the model: its plan, the act of each leaf, the source of each leaf that has one, what the leaves of work
-- compute, and the number of workers. The value of its source is the argument of a leaf's call, or the number of its
-- work.
pub record CoreJob : Type 0 where
  pub plan : Nodes
  pub act : ℕ → Act
  pub source : ℕ → Option ℕ
  pub work : ℕ → ℕ
  pub workers : ℕ

-- the model of a job with leaves, for a number of workers, where the leaves of work compute `work`
abbrev pub core_job_with : (ℕ → ℕ) → JobValue → ℕ → CoreJob
core_job_with work job workers =
    record { plan = nodes_of (job_tree job); act = act_of job.acts; source = source_of job; work = work; workers = workers }

-- the same where they spin
abbrev pub core_job : JobValue → ℕ → CoreJob
core_job = core_job_with spin_of

-- the flag owner's progress: the number of workers it has looked at, the workers whose calls it took, those it
-- answered, and whether it has published
pub record Hold : Type 0 where
  pub worker : ℕ
  pub looks : ℕ
  pub taken : ℕ → Bool
  pub answered : ℕ → Bool
  pub published : Bool

-- the state without the lists of ready nodes
pub record State : Type 0 where
  -- by node: its progress, the number of sides that have arrived at it, and its value once it is a leaf with one
  pub node : ℕ → Progress
  pub mark : ℕ → ℕ
  pub value : ℕ → Option ℕ
  -- by worker
  pub task : ℕ → Task
  pub status : ℕ → Status
  pub call : ℕ → CallState
  -- the flag: free without a hold, else owned by the hold's worker
  pub hold : Option Hold
  pub tick : ℕ
  pub book : List (List Entry)
  -- the shared objects after all operations of the book
  pub objects : Store

-- the state with each worker's list of ready nodes, oldest first
pub record CoreState : Type 0 where
  pub state : State
  pub ready : ℕ → List ℕ

-- the opening: the root is ready, and nothing has happened
unfoldable pub opening_state : State
opening_state = record {
  node = put (λ n. Waiting) 0 Ready;
  mark = λ n. 0;
  value = λ n. None;
  task = λ w. Idle;
  status = λ w. Free;
  call = λ w. NotCalled;
  hold = None;
  tick = 0;
  book = [];
  objects = opening_store;
}

-- the opening lists: worker 0 has the root
unfoldable pub opening_core : CoreState
opening_core = record { state = opening_state; ready = put (λ w. []) 0 (0 ∷ []) }
