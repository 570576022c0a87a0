-- Rows that are right are timed: each one's worker and ticks are small, and no two start at one tick.
use Rattle.std.proofs.Common.{◌≡◌, ◌≢◌, ℕ, zero, suc, ◌*◌, ◌<◌, ◌≤◌, List, [], ◌∷◌, length, refl, sym, ap, subst, arith}
use Rattle.std.specs.List.{AllByRecursion}
use Rattle.std.proofs.lemmas.Option.{same_Some}
use Rattle.seq_objects.specs.Pairs.{AreDistinct}
use Rattle.sp_order.specs.Precedence.{leaf_count}
use Rattle.sp_order.specs.Jobs.{JobValue, IsJob}
use Rattle.batch_history.specs.Lawful.{ticks_of, HasRows}
use Rattle.batch_history.specs.declared.row.Row.{Row}
use Rattle.report_walks.specs.Parts.{report_of}
use Rattle.report_walks.specs.Code.Spans.{IsRow, AreTimed}
use Rattle.report_walks.proofs.RowWalk.{rows_long}

-- what holds of all rows, or of all ticks, holds of the row of a leaf
pub row_each : (P : Row → Type 0) (rows : List Row) (u : ℕ) (row : Row) → AllByRecursion P rows → IsRow rows u row → P row
row_each P [] u row all is = absurd (cc)
row_each P (first ∷ rows) zero row all is = subst P (same_Some first row is) all.0
row_each P (first ∷ rows) (suc u) row all is = row_each P rows u row all.1 is

pub start_each : (P : ℕ → Type 0) (rows : List Row) (u : ℕ) (row : Row) → AllByRecursion P (ticks_of rows) → IsRow rows u row → P row.start
start_each P [] u row all is = absurd (cc)
start_each P (first ∷ rows) zero row all is = subst (λ (r : Row). P r.start) (same_Some first row is) all.0
start_each P (first ∷ rows) (suc u) row all is = start_each P rows u row all.1.1 is

pub end_each : (P : ℕ → Type 0) (rows : List Row) (u : ℕ) (row : Row) → AllByRecursion P (ticks_of rows) → IsRow rows u row → P row.end
end_each P [] u row all is = absurd (cc)
end_each P (first ∷ rows) zero row all is = subst (λ (r : Row). P r.end) (same_Some first row is) all.1.0
end_each P (first ∷ rows) (suc u) row all is = end_each P rows u row all.1.1 is

-- two leaves start at two ticks
starts_apart : (rows : List Row) → AreDistinct (ticks_of rows) → (u v : ℕ) (row row' : Row) → u ≢ v → IsRow rows u row → IsRow rows v row' → row.start ≢ row'.start
starts_apart [] distinct u v row row' other is is' = absurd (cc)
starts_apart (first ∷ rows) distinct zero zero row row' other is is' = absurd (other refl)
starts_apart (first ∷ rows) distinct zero (suc v) row row' other is is' =
    subst (λ (r : Row). r.start ≢ row'.start) (same_Some first row is) (start_each (λ tick. first.start ≢ tick) rows v row' distinct.0.1 is')
starts_apart (first ∷ rows) distinct (suc u) zero row row' other is is' =
    subst (λ (r : Row). row.start ≢ r.start) (same_Some first row' is') (λ same. start_each (λ tick. first.start ≢ tick) rows u row distinct.0.1 is (sym same))
starts_apart (first ∷ rows) distinct (suc u) (suc v) row row' other is is' = starts_apart rows distinct.1.1 u v row row' (λ same. other (ap suc same)) is is'

pub timed_of : (job : JobValue) (workers : ℕ) (rows : List Row) → IsJob job → workers ≤ 32 → HasRows job workers (report_of workers [] rows) → AreTimed rows
timed_of job workers rows is_job few has =
    let long : length rows ≡ leaf_count job.shape = rows_long job workers (report_of workers [] rows) has in
    record {
      few = omega (arith, long, is_job.leaves, is_job.most);
      workers = λ u row is. omega (arith, row_each (λ r. r.worker < workers) rows u row has.among is, few);
      starts_first = λ u row is. row_each (λ r. r.start < r.end) rows u row has.starts_first is;
      small = λ u row is. omega (arith, end_each (λ tick. tick < 2 * leaf_count job.shape) rows u row has.ticks.only is, long);
      apart = starts_apart rows has.ticks.distinct;
    }
