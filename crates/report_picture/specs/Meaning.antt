-- What boxes and brackets mean, in the words of reports.
use Rattle.std.specs.Prelude.{◌≡◌, ◌≢◌, ℕ, ◌+◌, ◌-◌, ◌*◌, ◌<◌, ◌≤◌, ◌⊎◌, List, length, slice_get, Some}
use Rattle.std.specs.List.{AllByRecursion, AllZip}
use Rattle.batch_history.specs.Book.{flat}
use Rattle.batch_history.specs.declared.batch.Entry.{Entry}
use Rattle.batch_history.specs.declared.row.Row.{Row}
use Rattle.batch_history.specs.declared.report.Report.{Report}
use Rattle.report_picture.specs.Boxes.{lane_top, marks_of, Box, boxes_of, Bracket, brackets_of}
use Rattle.report_picture.specs.Columns.{edges_of}

-- the box stands within the lane of this worker
pub record IsInLane (worker : ℕ) (box : Box) : Type 0 where
  pub below : lane_top worker ≤ box.top
  pub above : box.top + box.height ≤ lane_top worker + 28

-- the box stands in the lane of the row's worker, from its start to its end
pub record IsBoxOf (row : Row) (box : Box) : Type 0 where
  pub lane : IsInLane row.worker box
  pub starts : box.left ≡ row.start
  pub ends : row.start ≤ row.end → box.left + box.width ≡ row.end

-- the report has exactly one box for each row, in the order of the rows
abbrev pub HasBoxes : List (List ℕ) → Report → Type 0
HasBoxes names report = AllZip IsBoxOf report.rows (boxes_of names report)

-- one of the boxes ends left of where the other begins
abbrev pub AreApart : Box → Box → Type 0
AreApart box other = (box.left + box.width < other.left) ⊎ (other.left + other.width < box.left)

-- two boxes of the report that stand in one lane are apart
abbrev pub KeepsApart : List (List ℕ) → Report → Type 0
KeepsApart names report = (u v worker : ℕ) (box other : Box) → u ≢ v
    → slice_get (boxes_of names report) u ≡ Some box → slice_get (boxes_of names report) v ≡ Some other
    → IsInLane worker box → IsInLane worker other → AreApart box other

-- the ticks that are numbered where there are this many leaves are ticks that these have: each leaf has two
abbrev pub NumbersTicks : ℕ → Type 0
NumbersTicks leaves = AllByRecursion (λ tick. tick < 2 * leaves) (marks_of leaves)

-- the same of the first ticks of columns that are `width` ticks wide
abbrev pub NumbersFirstTicks : ℕ → ℕ → Type 0
NumbersFirstTicks width leaves = AllByRecursion (λ column. column * width < 2 * leaves) (edges_of width leaves)

-- the bracket is over the call that has `serial` calls before it in the book
pub record IsOver (bracket : Bracket) (serial : ℕ) : Type 0 where
  pub from : bracket.first ≤ serial
  pub to : serial < bracket.first + length bracket.entries

-- The entry, which has `serial` calls before it in the book, stands under the bracket with the number of its batch,
-- which is over the calls of this batch alone, and at its own place.
pub record StandsUnder (report : Report) (serial : ℕ) (entry : Entry) : Type 0 where
  pub batch : ℕ
  pub bracket : Bracket
  pub is : slice_get (brackets_of report) batch ≡ Some bracket
  pub numbered : bracket.batch ≡ batch
  pub calls : slice_get report.history batch ≡ Some bracket.entries
  pub over : IsOver bracket serial
  pub place : slice_get bracket.entries (serial - bracket.first) ≡ Some entry

-- each entry stands under a bracket
abbrev pub HasBrackets : Report → Type 0
HasBrackets report = (serial : ℕ) (entry : Entry) → slice_get (flat report.history) serial ≡ Some entry → StandsUnder report serial entry

-- no two brackets are over one call
abbrev pub KeepsBrackets : Report → Type 0
KeepsBrackets report = (serial b c : ℕ) (bracket other : Bracket)
    → slice_get (brackets_of report) b ≡ Some bracket → slice_get (brackets_of report) c ≡ Some other
    → IsOver bracket serial → IsOver other serial → b ≡ c
