-- The flaws of a report: the parts of `Lawful` in their order, and the first that a report does not keep.
use Rattle.std.specs.Prelude.{ℕ, ◌<◌, List, Option, None, Some}
use Rattle.std.specs.List.{AllByRecursion}
use Rattle.sp_order.specs.Jobs.{JobValue}
use Rattle.batch_history.specs.Book.{IsLegal, IsBatch}
use Rattle.batch_history.specs.Lawful.{HasRows, KeepsOrder, HasCalls, KeepsTicks, HasValues, Lawful}
use Rattle.batch_history.specs.declared.report.Report.{Report}
use Rattle.report_reader.specs.Texts.{HasText}
use Rattle.report_check.specs.declared.flaw.Flaw.{Flaw}
use Rattle.report_check.specs.declared.flaw.Flaw.TheVariants.{Text, Rows, Order, Calls, Replies, Ticks, Batches, Values}

-- What a report keeps that does not fail by the flaw, for the job and the number of workers that the report states. Each
-- report has a text.
abbrev pub Part : JobValue → Report → Flaw → Type 0
Part job report Text = Unit {0}
Part job report Rows = HasRows job report.workers report
Part job report Order = KeepsOrder job report
Part job report Calls = HasCalls job report
Part job report Replies = IsLegal report.history
Part job report Ticks = KeepsTicks report
Part job report Batches = AllByRecursion IsBatch report.history
Part job report Values = HasValues job report

-- the place of a flaw in their order
abbrev pub rank : Flaw → ℕ
rank Text = 1
rank Rows = 2
rank Order = 3
rank Calls = 4
rank Replies = 5
rank Ticks = 6
rank Batches = 7
rank Values = 8

-- The flaw is the first one of the report: it keeps the parts of all flaws before this one, and not that of this one.
pub record FailsFirst (job : JobValue) (report : Report) (flaw : Flaw) : Type 0 where
  pub earlier : (other : Flaw) → rank other < rank flaw → Part job report other
  pub failed : Part job report flaw → ⊥

-- The flaw of a text for a job, or none. There is none where the text is that of a raw report that is lawful for the
-- job and its own number of workers. The flaw is `Text` where the text is that of no raw report, and else the first
-- flaw of the report whose text it is.
abbrev pub IsFlawOf : JobValue → List ℕ → Option Flaw → Type 0
IsFlawOf job text None = (report : Report) × HasText job text report × Lawful job report.workers report
IsFlawOf job text (Some Text) = (report : Report) → HasText job text report → ⊥
IsFlawOf job text (Some flaw) = (report : Report) × HasText job text report × FailsFirst job report flaw
