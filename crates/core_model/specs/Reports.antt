-- The report of a state: a row for each leaf, and the book.
use Rattle.batch_history.specs.declared.report.Report.{Report}
use Rattle.batch_history.specs.declared.row.Row.{Row}
use Rattle.core_model.specs.Runs.{Drives, ReachesFrom, Step}
use Rattle.core_model.specs.State.{CoreJob, CoreState, State, core_job, core_job_with, opening_core}
use Rattle.core_model.specs.Tasks.{is_done}
use Rattle.core_model.specs.Words.{Progress, Ran, Tree, leaves}
use Rattle.sp_order.specs.Jobs.{JobValue, job_tree}
use Rattle.std.specs.List.{AllByRecursion, range_with_len}
use Rattle.std.specs.Prelude.{List, None, Option, Some, [], map, true, ℕ, ◌≡◌}

-- the progress is that of a leaf that has run
abbrev pub HasRun : Progress → Type 0
HasRun progress = (worker : ℕ) × (start : ℕ) × (end : ℕ) × (progress ≡ Ran worker start end)

-- the row has the worker, the ticks and the value of a leaf that has run
pub record IsRowFor (progress : Progress) (kept : Option ℕ) (row : Row) : Type 0 where
  pub ran : progress ≡ Ran row.worker row.start row.end
  pub value : kept ≡ Some row.value

-- the row fits the progress and the value of its leaf's node
abbrev pub TellsLeaf : (ℕ → ℕ) → (ℕ → Progress) → (ℕ → Option ℕ) → Row → Type 0
TellsLeaf node_of node value row = IsRowFor (node (node_of row.leaf)) (value (node_of row.leaf)) row

-- the row fits the state's node of its leaf
abbrev pub IsRowOf : CoreJob → State → Row → Type 0
IsRowOf job s row = TellsLeaf job.plan.node_of s.node s.value row

-- the report has the job's number of workers, a row for each leaf in leaf order, and the state's book
pub record IsReportOf (job : CoreJob) (leaf_total : ℕ) (s : State) (report : Report) : Type 0 where
  pub workers : report.workers ≡ job.workers
  pub leaves : map (λ row. row.leaf) report.rows ≡ range_with_len 0 leaf_total
  pub rows : AllByRecursion (IsRowOf job s) report.rows
  pub history : report.history ≡ s.book

-- the report is that of the state to which the schedule, and then round robin, drives `first`
pub record IsDrivenFrom (job : CoreJob) (leaf_total : ℕ) (first : CoreState) (schedule : List ℕ) (report : Report) : Type 0 where
  pub last : CoreState
  pub drives : Drives job first schedule 0 last
  pub reports : IsReportOf job leaf_total last.state report

abbrev pub IsDrivenShape : Option Tree → JobValue → CoreJob → List ℕ → Report → Type 0
IsDrivenShape None job core schedule report = report ≡ record { workers = core.workers; history = []; rows = [] }
IsDrivenShape (Some tree) job core schedule report = IsDrivenFrom core (leaves (job_tree job)) opening_core schedule report

-- The report of a job driven by a schedule from the opening, where the leaves of work compute `work`. Without leaves,
-- it has no rows and no batches.
abbrev pub IsDrivenReportWith : (ℕ → ℕ) → JobValue → ℕ → List ℕ → Report → Type 0
IsDrivenReportWith work job workers schedule report = IsDrivenShape job.shape job (core_job_with work job workers) schedule report

-- the same where they spin
abbrev pub IsDrivenReport : JobValue → ℕ → List ℕ → Report → Type 0
IsDrivenReport job workers schedule report = IsDrivenShape job.shape job (core_job job workers) schedule report

-- The report of a run of the model from `first`: a trace of events of the job's workers leads to a state whose root is
-- done, and the report is that of this state.
pub record IsRunFrom (job : CoreJob) (leaf_total : ℕ) (first : CoreState) (report : Report) : Type 0 where
  pub trace : List Step
  pub last : CoreState
  pub reaches : ReachesFrom job first trace last
  pub over : is_done (last.state.node 0) ≡ true
  pub reports : IsReportOf job leaf_total last.state report

abbrev pub IsRunShape : Option Tree → JobValue → CoreJob → Report → Type 0
IsRunShape None job core report = report ≡ record { workers = core.workers; history = []; rows = [] }
IsRunShape (Some tree) job core report = IsRunFrom core (leaves (job_tree job)) opening_core report

-- The report is that of some run of the job from the opening state, with any interleaving of its workers, where the
-- leaves of work compute `work`.
abbrev pub IsRunReportWith : (ℕ → ℕ) → JobValue → ℕ → Report → Type 0
IsRunReportWith work job workers report = IsRunShape job.shape job (core_job_with work job workers) report

-- the same where they spin
abbrev pub IsRunReport : JobValue → ℕ → Report → Type 0
IsRunReport job workers report = IsRunShape job.shape job (core_job job workers) report
