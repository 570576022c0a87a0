-- Raw reports: reports whose numbers fit, on objects that a job calls. A raw report need not be lawful for the job.
use Rattle.std.specs.Prelude.{◌≡◌, ◌≢◌, ◌<◌, ◌≤◌, ◌^◌, List, [], length, Contains}
use Rattle.std.specs.List.{AllByRecursion}
use Rattle.limits.specs.declared.TheConstants.{MOST_WORKERS}
use Rattle.seq_objects.specs.Objects.{argument_of, number_of, value_of}
use Rattle.seq_objects.specs.Batches.{kind_of}
use Rattle.seq_objects.specs.declared.op.Op.{Op}
use Rattle.seq_objects.specs.declared.act.Act.{Act}
use Rattle.seq_objects.specs.declared.act.Act.TheVariants.{Call}
use Rattle.sp_order.specs.Jobs.{JobValue}
use Rattle.batch_history.specs.Book.{flat}
use Rattle.batch_history.specs.declared.batch.Entry.{Entry}
use Rattle.batch_history.specs.declared.row.Row.{Row}
use Rattle.batch_history.specs.declared.report.Report.{Report}

-- the leaf, the worker and the argument of an entry are below 2^32, and the number in its reply is below 2^64
pub record FitsEntry (entry : Entry) : Type 0 where
  pub leaf : entry.leaf < 2 ^ 32
  pub worker : entry.worker < 2 ^ 32
  pub argument : argument_of entry.op < 2 ^ 32
  pub reply : value_of entry.reply < 2 ^ 64

-- the leaf and the worker of a row are below 2^32, and its ticks and its value are below 2^64
pub record FitsRow (row : Row) : Type 0 where
  pub leaf : row.leaf < 2 ^ 32
  pub worker : row.worker < 2 ^ 32
  pub start : row.start < 2 ^ 64
  pub end : row.end < 2 ^ 64
  pub value : row.value < 2 ^ 64

-- The report states at least one worker and no more than the most, has no empty batch, and the numbers of its entries
-- and rows fit.
pub record FitsTypes (report : Report) : Type 0 where
  pub some : 1 ≤ report.workers
  pub few : report.workers ≤ MOST_WORKERS
  pub batches : AllByRecursion (λ batch. batch ≢ []) report.history
  pub entries : AllByRecursion FitsEntry (flat report.history)
  pub rows : AllByRecursion FitsRow report.rows

-- one of the acts calls the object of this operation: the one with its number among those of its kind
pub record IsCalled (acts : List Act) (op : Op) : Type 0 where
  pub by : Op
  pub among : Contains acts (Call by)
  pub number : number_of by ≡ number_of op
  pub kind : kind_of by ≡ kind_of op

-- The operation is on an object of the job: its number is at most that of the names, and if it is above 0, an act of
-- the job calls the object.
pub record HasOwnObject (job : JobValue) (op : Op) : Type 0 where
  pub number : number_of op ≤ length job.names
  pub called : 0 < number_of op → IsCalled job.acts op

-- the numbers of the report fit, and its operations are on objects of the job
pub record IsRaw (job : JobValue) (report : Report) : Type 0 where
  pub fits : FitsTypes report
  pub objects : AllByRecursion (λ entry. HasOwnObject job entry.op) (flat report.history)
