-- The sides of a block are nodes, and so is the block.
use Rattle.std.proofs.Common.{ℕ, ◌≡◌, ◌≢◌, ◌<◌, Option as Maybe, Some, None}
use Rattle.sp_order.specs.declared.node.Kind.{Kind}
use Rattle.core_model.specs.declared.task.Task.{Task}
use Rattle.core_model.specs.declared.task.Task.TheVariants.{Started}
use Rattle.core_model.specs.State.{CoreJob}
use Rattle.table_rule.specs.Tasks.{TaskHere}
use Rattle.sp_order.specs.Plans.{Nodes, IsPlan, IsSide}

some_none : {A : Type 0} (o : Maybe A) (x : A) → o ≡ Some x → o ≢ None
some_none o x e = λ f. cc

pub block_in : (plan : Nodes) (p : ℕ) (kind : Kind) → IsPlan plan → plan.kind p ≡ Some kind → p < plan.count
block_in plan p kind laws e = laws.within p (some_none (plan.kind p) kind e)

pub side_below : (plan : Nodes) (p n : ℕ) → IsPlan plan → IsSide plan p n → n < plan.count
side_below plan p n laws side = laws.within n (laws.inside p n side)

pub started_in : (job : CoreJob) (task : Task) (n s : ℕ) → task ≡ Started n s → TaskHere job.plan task → n < job.plan.count
started_in job task n s e h = let h' = rw e at h in h'.0
