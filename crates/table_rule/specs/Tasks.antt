-- Which tasks a pass may have, the progress that a finish leaves, and the next act of a view.
use Rattle.std.specs.Prelude.{ℕ, ◌≡◌, ◌≢◌, ◌<◌, ◌*◌, Option as Maybe, Some}
use Rattle.limits.specs.declared.TheConstants.{MOST_LEAVES}
use Rattle.core_model.specs.Words.{Kind, ParNode, Nodes}
use Rattle.table_rule.specs.CoreWords.{Progress, Done, Ran, Task, Idle, Run, Half, Started, Kept, Ended, Whole, Handed}
use Rattle.core_model.specs.State.{CoreJob, core_job, core_job_with}
use Rattle.core_model.specs.Operations.{IsLeaf}
use Rattle.core_model.specs.Next.{next_act}
use Rattle.core_model.specs.declared.next.Next.{Next}
use Rattle.table_rule.specs.declared.view.View.{View}

abbrev pub IsPar : Maybe Kind → Type 0
IsPar (Some (ParNode l r)) = Unit {0}
IsPar _ = ⊥

-- the ticks of a run are below this: there are at most two for each node, and fewer than twice `MOST_LEAVES` nodes
abbrev pub most_ticks : ℕ
most_ticks = 4 * MOST_LEAVES

-- The task's node, if any, is one of the plan, and its ticks are below `most_ticks`. `Started` is at a leaf, `Half` and
-- `Handed` are at a parallel block, and `Whole` is not at the root, after which nothing is left to do.
abbrev pub TaskHere : Nodes → Task → Type 0
TaskHere plan Idle = Unit {0}
TaskHere plan (Run n) = n < plan.count
TaskHere plan (Half p) = (p < plan.count) × IsPar (plan.kind p)
TaskHere plan (Started n s) = (n < plan.count) × (s < most_ticks) × IsLeaf (plan.kind n)
TaskHere plan (Kept n s) = (n < plan.count) × (s < most_ticks)
TaskHere plan (Ended n s e) = (n < plan.count) × (s < most_ticks) × (e < most_ticks)
TaskHere plan (Whole n) = (n < plan.count) × (n ≢ 0)
TaskHere plan (Handed p) = (p < plan.count) × IsPar (plan.kind p)

-- the progress of a node that worker k's finish with this task marks as done: a leaf keeps who ran it, and when
abbrev pub progress_after : ℕ → Task → Progress
progress_after k (Ended n s e) = Ran k s e
progress_after k _ = Done

-- the job of the model that the view's pass works on, where the leaves of work compute `work`
abbrev pub job_seen_with : (ℕ → ℕ) → View → CoreJob
job_seen_with work v = core_job_with work v.job v.workers

-- the same where they spin
abbrev pub job_seen : View → CoreJob
job_seen v = core_job v.job v.workers

-- this is the next act of the view's task and call
abbrev pub IsNext : View → Next → Type 0
IsNext v next = next_act (job_seen v) v.own.task v.own.call ≡ Some next
