-- A job that was run, and what its report says of a leaf.
use Rattle.std.specs.Prelude.{ℕ, List, Option, slice_get}
use Rattle.std.specs.Option.{option_map}
use Rattle.sp_order.specs.Jobs.{JobValue}
use Rattle.batch_history.specs.Book.{flat}
use Rattle.batch_history.specs.declared.batch.Entry.{Entry}
use Rattle.batch_history.specs.declared.report.Report.{Report}

-- the job, its report, and the work that its leaves of work did
pub record RanValue (W : Type 0) : Type 0 where
  pub job : JobValue
  pub report : Report
  pub work : W

-- the value of a leaf, by its row in the report
abbrev pub value_in : Report → ℕ → Option ℕ
value_in report leaf = option_map (λ row. row.value) (slice_get report.rows leaf)

-- the calls, in the order in which they were served
abbrev pub calls_of : {W : Type 0} → RanValue W → List Entry
calls_of ran = flat ran.report.history
