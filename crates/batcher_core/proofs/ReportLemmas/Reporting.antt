-- The report of a core that is over.
use Rattle.std.proofs.Common.{ℕ, ◌≡◌, ◌&&◌, not, Bool, true, false, List, map, refl}
use Rattle.std.specs.List.{AllByRecursion, range_with_len}
use Rattle.core_model.proofs.Words.{leaves, core_job_with}
use Rattle.sp_order.specs.Jobs.{JobValue, job_tree}
use Rattle.sp_order.specs.Preorder.{nodes_of}
use Rattle.batch_history.specs.declared.row.Row.{Row}
use Rattle.core_state.specs.declared.state.State.{State as StoredState}
use Rattle.core_state.specs.Abstraction.{book_of, state_of}
use Rattle.core_model.specs.Reports.{TellsLeaf, IsReportOf}

-- a core that is over is not spent, and its root is done
pub over_is : (spent done : Bool) → (not spent && done) ≡ true → (spent ≡ false) × (done ≡ true)
over_is false done h = (refl, h)
over_is true done h = absurd cc

-- the report of the rows of all leaves
pub reported : {work : ℕ → ℕ} (job : JobValue) (workers : ℕ) (t : StoredState) (rows : List Row) → map (λ (row : Row). row.leaf) rows ≡ range_with_len 0 (leaves (job_tree job))
    → AllByRecursion (λ (row : Row). TellsLeaf (nodes_of (job_tree job)).node_of (state_of t).node (state_of t).value row) rows
    → IsReportOf (core_job_with work job workers) (leaves (job_tree job)) (state_of t) (record { workers = workers; history = book_of t.shop; rows = rows })
unfolding state_of
reported {work} job workers t rows order tell = record { workers = refl; leaves = order; rows = tell; history = refl }
