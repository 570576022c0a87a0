-- A measure that bounds the events left in a run by turns.
use Rattle.core_model.specs.Operations.{op_in}
use Rattle.core_model.specs.State.{CoreJob, Hold, State}
use Rattle.core_model.specs.Words.{Progress, Done, Ran, Ready, Taken, Waiting, CallState, Got, NotCalled, Out, Status, Executing, Free, Pending, Served, Task, Ended, Half, Handed, Idle, Kept, Run, Started, Whole, Op, Kind, LeafNode, ParNode, SeqNode}
use Rattle.std.specs.Prelude.{Bool, None, Option, Some, false, if◌then◌else◌, suc, zero, ℕ, ◌+◌, ◌-◌, ◌==◌}

-- the sum of `f` over the numbers below `n`
abbrev pub total : (ℕ → ℕ) → ℕ → ℕ
total f zero = 0
total f (suc n) = f n + total f n

-- the events of a call: post, win, a look at each worker, publish, release, answer and leave
abbrev pub call_cost : ℕ → Option Op → ℕ
call_cost workers None = 0
call_cost workers (Some op) = workers + 6

abbrev pub leaf_cost : CoreJob → Option Kind → ℕ
leaf_cost job (Some (LeafNode u)) = call_cost job.workers (op_in (job.act u))
leaf_cost job (Some (SeqNode l r)) = 0
leaf_cost job (Some (ParNode l r)) = 0
leaf_cost job None = 0

-- the events of a node that is not claimed yet, apart from its call
abbrev pub first_cost : Option Kind → ℕ
first_cost (Some (LeafNode u)) = 6
first_cost (Some (SeqNode l r)) = 3
first_cost (Some (ParNode l r)) = 5
first_cost None = 0

-- the share of a taken node that no task accounts for
abbrev pub left_cost : Option Kind → ℕ
left_cost (Some (LeafNode u)) = 0
left_cost (Some (SeqNode l r)) = 1
left_cost (Some (ParNode l r)) = 2
left_cost None = 0

abbrev pub node_cost : CoreJob → Option Kind → Progress → ℕ
node_cost job k Waiting = first_cost k + leaf_cost job k
node_cost job k Ready = first_cost k + leaf_cost job k
node_cost job k Taken = left_cost k
node_cost job k Done = 0
node_cost job k (Ran w s e) = 0

abbrev pub run_cost : Option Kind → ℕ
run_cost (Some (LeafNode u)) = 5
run_cost (Some (SeqNode l r)) = 1
run_cost (Some (ParNode l r)) = 2
run_cost None = 0

abbrev pub task_cost : CoreJob → Task → ℕ
task_cost job Idle = 0
task_cost job (Run n) = run_cost (job.plan.kind n)
task_cost job (Half p) = 1
task_cost job (Started n t) = 4
task_cost job (Kept n t) = 3
task_cost job (Ended n t e) = 2
task_cost job (Whole n) = 1
task_cost job (Handed p) = 0

-- the events of a call not posted yet
abbrev pub due_cost : CoreJob → Task → ℕ
due_cost job (Run n) = leaf_cost job (job.plan.kind n)
due_cost job (Started n t) = leaf_cost job (job.plan.kind n)
due_cost job Idle = 0
due_cost job (Half p) = 0
due_cost job (Kept n t) = 0
due_cost job (Ended n t e) = 0
due_cost job (Whole n) = 0
due_cost job (Handed p) = 0

abbrev pub free_cost : CoreJob → Task → CallState → ℕ
free_cost job t NotCalled = due_cost job t
free_cost job t Out = 0
free_cost job t (Got r) = 0

-- a pending owner costs 2 only: the rest of its call's cost is in `hold_cost`
abbrev pub status_cost : CoreJob → Bool → Task → Status → CallState → ℕ
status_cost job owns t Free c = free_cost job t c
status_cost job owns t Pending c = if owns then 2 else job.workers + 5
status_cost job owns t Executing c = 2
status_cost job owns t (Served r) c = 1

abbrev pub owns : Option Hold → ℕ → Bool
owns None w = false
owns (Some h) w = h.worker == w

abbrev pub worker_cost : CoreJob → Bool → Task → Status → CallState → ℕ
worker_cost job o t st c = task_cost job t + status_cost job o t st c

abbrev pub hold_cost : ℕ → Option Hold → ℕ
hold_cost workers None = 0
hold_cost workers (Some h) = (workers - h.looks) + (if h.published then 0 else 1) + 1

abbrev pub nodes_measure : CoreJob → State → ℕ
nodes_measure job s = total (λ n. node_cost job (job.plan.kind n) (s.node n)) job.plan.count

abbrev pub workers_measure : CoreJob → State → ℕ
workers_measure job s = total (λ w. worker_cost job (owns s.hold w) (s.task w) (s.status w) (s.call w)) job.workers

abbrev pub measure : CoreJob → State → ℕ
measure job s = nodes_measure job s + workers_measure job s + hold_cost job.workers s.hold

abbrev pub one_if : Option Op → ℕ
one_if None = 0
one_if (Some op) = 1

-- 1 for the node of a calling leaf, else 0
abbrev pub one_if_call : CoreJob → Option Kind → ℕ
one_if_call job None = 0
one_if_call job (Some (LeafNode u)) = one_if (op_in (job.act u))
one_if_call job (Some (SeqNode l r)) = 0
one_if_call job (Some (ParNode l r)) = 0

-- the number of nodes whose leaf calls
abbrev pub call_count : CoreJob → ℕ
call_count job = total (λ n. one_if_call job (job.plan.kind n)) job.plan.count
