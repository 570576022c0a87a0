-- What each worker does in each column of ticks.
use Rattle.std.specs.Prelude.{ℕ, ◌+◌, ◌*◌, ◌-◌, ◌/◌, ◌==◌, ◌&&◌, Bool, not, min, max, List, map, length}
use Rattle.std.specs.List.{filter, flat_map, list_any, range_with_len, sum_by}
use Rattle.batch_history.specs.Book.{flat}
use Rattle.batch_history.specs.declared.batch.Entry.{Entry}
use Rattle.batch_history.specs.declared.row.Row.{Row}
use Rattle.batch_history.specs.declared.report.Report.{Report}
use Rattle.report_shares.specs.declared.share.Share.{Share}

-- the ticks that a column is wide, for so many leaves: 120 columns have room for twice the leaves
abbrev pub width_of : ℕ → ℕ
width_of leaves = leaves / 60 + 1

-- the first tick of a column; the last column that has ticks may be shorter, and those behind it have none
abbrev pub edge : ℕ → ℕ → ℕ
edge leaves column = min (column * width_of leaves) (2 * leaves)

-- how many of the ticks from `from` on and below `to` a row lasts
abbrev pub lasts_in : ℕ → ℕ → Row → ℕ
lasts_in from to row = min to row.end - max from row.start

-- how many rows last, all together
abbrev pub ticks_in : ℕ → ℕ → List Row → ℕ
ticks_in from to rows = sum_by (lasts_in from to) rows

-- whether a leaf calls: whether it stands in the book
abbrev pub calls : List (List Entry) → ℕ → Bool
calls book leaf = list_any (λ entry. entry.leaf == leaf) (flat book)

-- Below, `calling` says which leaves call.

-- whether the row is of this worker, and its leaf works
abbrev pub works : (ℕ → Bool) → ℕ → Row → Bool
works calling worker row = (row.worker == worker) && not (calling row.leaf)

-- whether the row is of this worker, and its leaf calls
abbrev pub calls_in : (ℕ → Bool) → ℕ → Row → Bool
calls_in calling worker row = (row.worker == worker) && calling row.leaf

-- the share of a worker in a column, where these are its rows that work and that call
abbrev pub share_in : ℕ → ℕ → ℕ → List Row → List Row → Share
share_in leaves worker column work called = record {
  worker = worker;
  column = column;
  from = edge leaves column;
  to = edge leaves (column + 1);
  work = ticks_in (edge leaves column) (edge leaves (column + 1)) work;
  calls = ticks_in (edge leaves column) (edge leaves (column + 1)) called;
}

-- the shares of a worker, one for each column
abbrev pub lane_shares : (ℕ → Bool) → List Row → ℕ → List Share
lane_shares calling rows worker =
    map (λ column. share_in (length rows) worker column (filter (works calling worker) rows) (filter (calls_in calling worker) rows)) (range_with_len 0 120)

-- the shares of all workers of a report
unfoldable pub shares_of : Report → List Share
shares_of report = flat_map (lane_shares (calls report.history) report.rows) (range_with_len 0 report.workers)
