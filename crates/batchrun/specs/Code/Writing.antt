-- When a report can be written, what is written of it, and how the writing ends.
use Rattle.std.specs.Prelude.{◌≡◌, ℕ, ◌<◌, ◌⊎◌, List, length, Option, Result, Ok}
use Rattle.sp_order.specs.Jobs.{JobValue}
use Rattle.sp_order.specs.Precedence.{leaf_count}
use Rattle.batch_history.specs.Book.{flat}
use Rattle.batch_history.specs.Text.{HaveNames}
use Rattle.batch_history.specs.declared.report.Report.{Report}
use Rattle.std.specs.Io.KnownBytes.{Appends}
use Rattle.bt_io.specs.Bytes.{AppendsFront}
use Rattle.batchrun.specs.declared.status.Status.{Status}
use Rattle.batchrun.specs.declared.status.Status.TheVariants.{Done, WriteFault, Memory}

-- there are as many rows as leaves, and each object has a name of the job or the number 0
pub record CanBeWritten (job : JobValue) (report : Report) : Type 0 where
  pub rows : length report.rows ≡ leaf_count job.shape
  pub numbers : HaveNames job.names (flat report.history)

-- the report is that of the run, and these are its lines
abbrev pub WritesReport : {E : Type 0} → Result Report E → (Report → List ℕ) → Report → List ℕ → Type 0
WritesReport run lines_of report lines = (run ≡ Ok report) × (lines_of report ≡ lines)

-- Out took all of the lines, and the status is `done`. Or out took only a front of them because a write failed, which
-- happens only where the lines are longer than the room.
abbrev pub WritesLines : Status → List ℕ → Status → Option (List ℕ) → Option (List ℕ) → Type 0 → ℕ → Type 0
WritesLines done lines status old new WritesFailed room =
    ((status ≡ done) × Appends old new lines) ⊎ ((status ≡ WriteFault) × AppendsFront old new lines × WritesFailed × (room < length lines))

-- the writing of a text may end with this status
abbrev pub EndsWriting : Status → Type 0 → Type 0
EndsWriting Done WritesFailed = Unit {0}
EndsWriting WriteFault WritesFailed = WritesFailed
EndsWriting Memory WritesFailed = Unit {0}
EndsWriting status WritesFailed = ⊥
