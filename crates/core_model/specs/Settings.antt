-- The model's job of a `Setting`, and the nodes and leaves of tasks.
use Rattle.core_model.specs.Operations.{IsLeaf}
use Rattle.core_model.specs.State.{CoreJob, core_job, core_job_with}
use Rattle.core_model.specs.declared.setting.Setting.{Setting}
use Rattle.core_model.specs.declared.task.Task.{Task}
use Rattle.core_model.specs.declared.task.Task.TheVariants.{Ended, Half, Handed, Idle, Kept, Run, Started, Whole}
use Rattle.sp_order.specs.Plans.{Nodes}
use Rattle.sp_order.specs.declared.node.Kind.{Kind}
use Rattle.sp_order.specs.declared.node.Kind.TheVariants.{LeafNode, ParNode, SeqNode}
use Rattle.std.specs.Prelude.{None, Option, Some, ℕ, ◌<◌}

-- the job of the model, where the leaves of work compute `work`
abbrev pub job_with : (ℕ → ℕ) → Setting → CoreJob
job_with work setting = core_job_with work setting.job setting.workers

-- the same where they spin
abbrev pub job_of : Setting → CoreJob
job_of setting = core_job setting.job setting.workers

-- the leaf at a node of this kind, if it is a leaf
abbrev pub leaf_at : Option Kind → Option ℕ
leaf_at None = None
leaf_at (Some (LeafNode leaf)) = Some leaf
leaf_at (Some (SeqNode left right)) = None
leaf_at (Some (ParNode left right)) = None

-- the node that a task names, if it names one, is below `nodes`
abbrev pub TaskIn : ℕ → Task → Type 0
TaskIn nodes Idle = Unit {0}
TaskIn nodes (Run n) = n < nodes
TaskIn nodes (Half n) = n < nodes
TaskIn nodes (Started n s) = n < nodes
TaskIn nodes (Kept n s) = n < nodes
TaskIn nodes (Ended n s e) = n < nodes
TaskIn nodes (Whole n) = n < nodes
TaskIn nodes (Handed n) = n < nodes

-- the task is started at a leaf
abbrev pub HasLeaf : Nodes → Task → Type 0
HasLeaf plan Idle = ⊥
HasLeaf plan (Run n) = ⊥
HasLeaf plan (Half n) = ⊥
HasLeaf plan (Started n s) = IsLeaf (plan.kind n)
HasLeaf plan (Kept n s) = ⊥
HasLeaf plan (Ended n s e) = ⊥
HasLeaf plan (Whole n) = ⊥
HasLeaf plan (Handed n) = ⊥
