-- What shares mean, in the words of reports.
use Rattle.std.specs.Prelude.{◌≡◌, ℕ, ◌+◌, ◌*◌, ◌-◌, ◌≤◌}
use Rattle.std.specs.List.{AllByRecursion, sum_by}
use Rattle.batch_history.specs.declared.report.Report.{Report}
use Rattle.report_shares.specs.Shares.{edge, shares_of}

-- the 120 columns begin with tick 0, follow one another, and end with the last of twice so many ticks as there are
-- leaves
pub record TakeEachTick (leaves : ℕ) : Type 0 where
  pub first : edge leaves 0 ≡ 0
  pub rising : (column : ℕ) → edge leaves column ≤ edge leaves (column + 1)
  pub last : edge leaves 120 ≡ 2 * leaves

-- no worker does more in a column than the column has ticks
abbrev pub FitColumns : Report → Type 0
FitColumns report = AllByRecursion (λ share. share.work + share.calls ≤ share.to - share.from) (shares_of report)

-- all workers do in all columns what all rows last
abbrev pub AreAllTicks : Report → Type 0
AreAllTicks report = sum_by (λ share. share.work + share.calls) (shares_of report) ≡ sum_by (λ row. row.end - row.start) report.rows
