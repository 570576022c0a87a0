-- The calls of a batch: those of the workers that the hold has taken.
use Rattle.core_model.specs.Operations.{op_of}
use Rattle.core_model.specs.State.{CoreJob}
use Rattle.core_model.specs.Words.{Entry}
use Rattle.core_model.specs.declared.task.Task.{Task}
use Rattle.core_model.specs.declared.task.Task.TheVariants.{Started}
use Rattle.seq_objects.specs.Pairs.{AreDistinct}
use Rattle.seq_objects.specs.declared.call.Call.{Call}
use Rattle.sp_order.specs.declared.node.Kind.TheVariants.{LeafNode}
use Rattle.std.specs.List.{AllByRecursion}
use Rattle.std.specs.Prelude.{Bool, Contains, List, Some, map, true, ℕ, ◌<◌, ◌≡◌}

-- the task is a started leaf, and the call has that leaf and its operation under this book
abbrev pub IsCallOf : CoreJob → List (List Entry) → Task → Call → Type 0
IsCallOf job book task call =
    (node : ℕ) × (start : ℕ) × (job.plan.kind node ≡ Some (LeafNode call.leaf)) × (task ≡ Started node start)
    × (op_of job book call.leaf ≡ Some call.op)

-- `calls` has the call of each worker in `took`, exactly once, and no other, with its operation under this book
pub record AreTakenCalls (job : CoreJob) (book : List (List Entry)) (task : ℕ → Task) (took : ℕ → Bool) (calls : List Call) : Type 0 where
  pub distinct : AreDistinct (map (λ call. call.worker) calls)
  pub only : AllByRecursion (λ call. (took call.worker ≡ true) × IsCallOf job book (task call.worker) call) calls
  pub each : (w : ℕ) → w < job.workers → took w ≡ true → Contains (map (λ call. call.worker) calls) w
