-- Reports of which a walk sees some fields only.
use Rattle.std.specs.Prelude.{ℕ, List, []}
use Rattle.batch_history.specs.declared.batch.Entry.{Entry}
use Rattle.batch_history.specs.declared.row.Row.{Row}
use Rattle.batch_history.specs.declared.report.Report.{Report}

-- a report with this number of workers, these batches and these rows
abbrev pub report_of : ℕ → List (List Entry) → List Row → Report
report_of workers book rows = record { workers = workers; history = book; rows = rows }

-- one with these rows, for what looks at rows alone
abbrev pub of_rows : List Row → Report
of_rows rows = report_of 0 [] rows

-- one with these batches and rows, for what does not look at the number of workers
abbrev pub of_calls : List (List Entry) → List Row → Report
of_calls book rows = report_of 0 book rows
