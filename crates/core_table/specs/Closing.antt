-- What the report of a closed table says.
use Rattle.std.specs.Prelude.{ℕ, ◌≡◌, ◌<◌, true, List, slice_index}
use Rattle.std.specs.List.{AllByRecursion}
use Rattle.sp_order.specs.Jobs.{job_tree}
use Rattle.sp_order.specs.Precedence.{leaves}
use Rattle.batch_history.specs.declared.row.Row.{Row}
use Rattle.batch_history.specs.declared.report.Report.{Report}
use Rattle.core_model.specs.Settings.{job_with}
use Rattle.core_model.specs.Tasks.{is_done}
use Rattle.core_model.specs.Reports.{IsReportOf}
use Rattle.core_model.specs.declared.setting.Setting.{Setting}
use Rattle.table_rule.specs.Words.{node_at, value_at, worker_in, start_in, end_in}
use Rattle.table_rule.specs.Shows.{TableState, ShownWith}

-- The row of a leaf, read from the words: worker, start and end are packed in the node's progress word (`progress_code`
-- in `Words.antt`), and the value has a word of its own.
pub record RowInWords (workers nodes leaf_total : ℕ) (node_of : ℕ → ℕ) (words : List ℕ) (row : Row) : Type 0 where
  pub low : row.leaf < leaf_total
  pub worker : row.worker ≡ worker_in (slice_index words (node_at workers (node_of row.leaf)))
  pub start : row.start ≡ start_in (slice_index words (node_at workers (node_of row.leaf)))
  pub end : row.end ≡ end_in (slice_index words (node_at workers (node_of row.leaf)))
  pub value : row.value ≡ slice_index words (value_at workers nodes (node_of row.leaf))

-- The table, whose leaves of work compute `work`, shows a state whose root is done. The report's rows are read from the
-- table's words, and the report is that of the state, so its history is the state's book.
pub record IsReportOfTable (work : ℕ → ℕ) (key : Setting) (t : TableState) (report : Report) : Type 0 where
  pub shown : ShownWith work key t
  pub over : is_done (shown.state.node 0) ≡ true
  pub rows : AllByRecursion (RowInWords key.workers (job_with work key).plan.count (leaves (job_tree key.job)) (job_with work key).plan.node_of t.words) report.rows
  pub reports : IsReportOf (job_with work key) (leaves (job_tree key.job)) shown.state report
