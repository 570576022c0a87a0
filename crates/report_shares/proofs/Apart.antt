-- In a lawful report the rows of one worker are apart, so they fit into each column.
use Rattle.std.proofs.Common.{ℕ, zero, suc, ◌≡◌, ◌≢◌, ◌+◌, ◌-◌, ◌==◌, ◌<◌, ◌≤◌, ◌⊎◌, inl, inr, Bool, true, false, cond, min, max, List, [], ◌∷◌, ◌++◌, Some, map, refl, sym, ◌∙◌, arith, slice_get, length}
use Rattle.std.specs.List.{AllByRecursion, filter, flat_map, range_with_len, sum_by}
use Rattle.std.proofs.lemmas.List.Sums.{sum_by-cons}
use Rattle.seq_objects.specs.Pairs.{AllPairsByRecursion}
use Rattle.sp_order.specs.Jobs.{JobValue}
use Rattle.batch_history.specs.Lawful.{Lawful}
use Rattle.batch_history.specs.declared.row.Row.{Row}
use Rattle.batch_history.specs.declared.report.Report.{Report}
use Rattle.report_shares.specs.Shares.{edge, lasts_in, calls, works, calls_in, share_in, lane_shares, shares_of}
use Rattle.report_shares.specs.Meaning.{FitColumns}
use Rattle.report_shares.specs.declared.share.Share.{Share}
use Rattle.report_shares.proofs.Totals.{lasts_for, both}
use Rattle.seq_objects.proofs.Numbers.{same_number}

-- of two rows of one worker one ends before the other starts
abbrev Apart : Row → Row → Type 0
Apart row row' = row.worker ≡ row'.worker → (row.end < row'.start) ⊎ (row'.end < row.start)

all_at : (P : Row → Type 0) (rows : List Row) → ((k : ℕ) (row : Row) → slice_get rows k ≡ Some row → P row) → AllByRecursion P rows
all_at P [] each = tt
all_at P (row ∷ rows) each = (each zero row refl, all_at P rows (λ k other is. each (suc k) other is))

each_pair : (R : Row → Row → Type 0) (rows : List Row)
    → ((u v : ℕ) → u ≢ v → (row : Row) → slice_get rows u ≡ Some row → (row' : Row) → slice_get rows v ≡ Some row' → R row row') → AllPairsByRecursion R rows
each_pair R [] each = tt
each_pair R (row ∷ rows) each = (
  all_at (λ other. R row other) rows (λ k other is. each zero (suc k) (λ e. omega (arith, e)) row refl other is),
  each_pair R rows (λ u v differ one is other is'. each (suc u) (suc v) (λ e. differ (omega (arith, e))) one is other is'),
)

-- a row beside another one lasts on its one side or on its other side
beside : (from to start end s e : ℕ) → (end < s) ⊎ (e < start) → s < e
    → min to end - max from start ≤ (min (min to s) end - max from start) + (min to end - max (max from e) start)
beside from to start end s e (inl before) first = omega (arith, before, first)
beside from to start end s e (inr after) first = omega (arith, after, first)

-- what is left of a row, in it, and right of it
parts : (from to s e : ℕ) → s < e → (min to e - max from s) + ((min to s - from) + (to - max from e)) ≤ to - from
parts from to s e first = omega (arith, first)

split : (worker : ℕ) (row other : Row) (from to : ℕ) (is : Bool) → (other.worker == worker) ≡ is → row.worker ≡ worker → row.start < row.end → Apart row other
    → cond is (lasts_in from to other) 0 ≤ cond is (lasts_in from (min to row.start) other) 0 + cond is (lasts_in (max from row.end) to other) 0
split worker row other from to false e mine first apart = omega arith
split worker row other from to true e mine first apart =
    let theirs : other.worker ≡ worker = same_number other.worker worker e in
    beside from to other.start other.end row.start row.end (swapped (apart (mine ∙ sym theirs))) first
  where
    swapped : (row.end < other.start) ⊎ (other.end < row.start) → (other.end < row.start) ⊎ (row.end < other.start)
    swapped (inl h) = inr h
    swapped (inr h) = inl h

split_all : (worker : ℕ) (row : Row) (rows : List Row) (from to : ℕ) → row.worker ≡ worker → row.start < row.end → AllByRecursion (λ other. Apart row other) rows
    → sum_by (lasts_for worker from to) rows ≤ sum_by (lasts_for worker from (min to row.start)) rows + sum_by (lasts_for worker (max from row.end) to) rows
split_all worker row [] from to mine first apart = omega arith
split_all worker row (other ∷ rows) from to mine first apart =
    let h = split_all worker row rows from to mine first apart.1 in
    let one = split worker row other from to (other.worker == worker) refl mine first apart.0 in
    omega (arith, h, one, sum_by-cons (lasts_for worker from to) other rows, sum_by-cons (lasts_for worker from (min to row.start)) other rows, sum_by-cons (lasts_for worker (max from row.end) to) other rows)

-- one row more of rows that are apart
fit_row : (worker : ℕ) (row : Row) (rows : List Row) (from to : ℕ) (is : Bool) → (row.worker == worker) ≡ is → row.start < row.end → AllByRecursion (λ other. Apart row other) rows
    → sum_by (lasts_for worker from to) rows ≤ to - from
    → sum_by (lasts_for worker from (min to row.start)) rows ≤ min to row.start - from
    → sum_by (lasts_for worker (max from row.end) to) rows ≤ to - max from row.end
    → cond is (lasts_in from to row) 0 + sum_by (lasts_for worker from to) rows ≤ to - from
fit_row worker row rows from to false e first apart all left right = omega (arith, all)
fit_row worker row rows from to true e first apart all left right =
    let h = split_all worker row rows from to (same_number row.worker worker e) first apart in
    let p = parts from to row.start row.end first in
    omega (arith, h, left, right, p)

-- rows of one worker that are apart last at most all ticks
pub fit : (worker : ℕ) (rows : List Row) (from to : ℕ) → AllByRecursion (λ row. row.start < row.end) rows → AllPairsByRecursion Apart rows
    → sum_by (lasts_for worker from to) rows ≤ to - from
fit worker [] from to first apart = omega arith
fit worker (row ∷ rows) from to first apart =
    let h = fit_row worker row rows from to (row.worker == worker) refl first.0 apart.0 (fit worker rows from to first.1 apart.1)
    (fit worker rows from (min to row.start) first.1 apart.1) (fit worker rows (max from row.end) to first.1 apart.1) in
    omega (arith, h, sum_by-cons (lasts_for worker from to) row rows)

all_mapped : (P : Share → Type 0) (f : ℕ → Share) → ((n : ℕ) → P (f n)) → (ns : List ℕ) → AllByRecursion P (map f ns)
all_mapped P f each [] = tt
all_mapped P f each (n ∷ ns) = (each n, all_mapped P f each ns)

all_joined : (P : Share → Type 0) (xs ys : List Share) → AllByRecursion P xs → AllByRecursion P ys → AllByRecursion P (xs ++ ys)
all_joined P [] ys all all' = all'
all_joined P (x ∷ xs) ys all all' = (all.0, all_joined P xs ys all.1 all')

all_flat : (P : Share → Type 0) (f : ℕ → List Share) → ((n : ℕ) → AllByRecursion P (f n)) → (ns : List ℕ) → AllByRecursion P (flat_map f ns)
all_flat P f each [] = tt
all_flat P f each (n ∷ ns) = all_joined P (f n) (flat_map f ns) (each n) (all_flat P f each ns)

abbrev Fits : Share → Type 0
Fits share = share.work + share.calls ≤ share.to - share.from

pub fit_columns : (job : JobValue) (workers : ℕ) (report : Report) → Lawful job workers report → FitColumns report
unfolding shares_of
fit_columns job workers report lawful =
    let calling = calls report.history in
    let rows = report.rows in
    let apart : AllPairsByRecursion Apart rows = each_pair Apart rows (λ u v differ row is row' is'. lawful.order.alone u v differ row is row' is') in
    all_flat Fits (lane_shares calling rows) (λ worker. all_mapped Fits
    (λ column. share_in (length rows) worker column (filter (works calling worker) rows) (filter (calls_in calling worker) rows))
    (λ column.
    let from = edge (length rows) column in
    let to = edge (length rows) (column + 1) in
    let h = fit worker rows from to lawful.rows.starts_first apart in
    let s = both calling worker rows from to in
    omega (arith, h, s)) (range_with_len 0 120)) (range_with_len 0 report.workers)
