-- What a worker is doing, to the detail that the code which drives workers needs.
use Rattle.core_model.specs.Choice.{leaf_named}
use Rattle.core_model.specs.State.{CoreJob, State}
use Rattle.core_model.specs.Tasks.{names}
use Rattle.core_model.specs.Words.{Nodes}
use Rattle.core_state.specs.Words.{CallState, Got, NotCalled, Out, Status, Executing, Free, Pending, Served, Task, Ended, Half, Handed, Idle, Kept, Run, Started, Whole}
use Rattle.core_state.specs.declared.doing.Doing.{Doing}
use Rattle.core_state.specs.declared.doing.Doing.TheVariants as doings
use Rattle.std.specs.Prelude.{ℕ}

-- the leaf of the node that a task names
abbrev pub leaf_of_task : Nodes → Task → ℕ
leaf_of_task plan task = leaf_named plan (names task)

-- a worker with a started leaf: `Started` only until it posts a call
abbrev pub doing_started : CallState → ℕ → Doing
doing_started NotCalled leaf = doings.Started leaf
doing_started Out leaf = doings.Other
doing_started (Got receipt) leaf = doings.Other

-- a worker whose status is `Free`, by its task
abbrev pub doing_free : Nodes → CallState → Task → Doing
doing_free plan call Idle = doings.Other
doing_free plan call (Run n) = doings.Other
doing_free plan call (Half n) = doings.Other
doing_free plan call (Started n start) = doing_started call (leaf_of_task plan (Started n start))
doing_free plan call (Kept n start) = doings.Other
doing_free plan call (Ended n start end) = doings.Other
doing_free plan call (Whole n) = doings.Other
doing_free plan call (Handed n) = doings.Other

-- by status: a worker that is not `Free` is trapped in the call of its task's leaf
abbrev pub doing_by : Nodes → CallState → Task → Status → Doing
doing_by plan call task Free = doing_free plan call task
doing_by plan call task Pending = doings.Calling (leaf_of_task plan task)
doing_by plan call task Executing = doings.Calling (leaf_of_task plan task)
doing_by plan call task (Served receipt) = doings.Calling (leaf_of_task plan task)

-- what worker `w` is doing in state `s`
abbrev pub doing_of : CoreJob → State → ℕ → Doing
doing_of job s w = doing_by job.plan (s.call w) (s.task w) (s.status w)
